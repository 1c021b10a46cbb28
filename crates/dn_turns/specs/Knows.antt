use Rattle.std.specs.Prelude.{◌≡◌, ◌⊎◌, ℕ, ◌+◌, ◌<◌, ◌≤◌, true, List, ◌∷◌, ◌++◌, Option, Some, None}
use Rattle.dn_word.specs.Gate.{gate_of}
use Rattle.dn_word.specs.Ref.{ref_word}
use Rattle.dn_word.specs.declared.packed.place.Ref.{Ref}
use Rattle.dn_record.specs.Record.{length_in_words, head_of}
use Rattle.dn_record.specs.declared.records.Record.{Record}
use Rattle.dn_record.specs.declared.records.Record.TheVariants.{Delete}
use Rattle.dn_model.specs.declared.logs.Placed.{Placed}
use Rattle.dn_model.specs.Regions.{place}
use Rattle.dn_model.specs.Held.{is_authority}
use Rattle.dn_index.specs.Walk.{Walking}
use Rattle.dn_store.specs.Cut.{words_in}
use Rattle.dn_beside.specs.Pool.{Pool, store_in}
use Rattle.dn_walks.specs.Changing.{KnowsWalk}
use Rattle.dn_merge.specs.Merge.{Merging, change_of}
use Rattle.dn_merge.specs.declared.places.Change.{Change}
use Rattle.dn_merge.specs.declared.places.Change.TheVariants.{Set, Remove}
use Rattle.dn_merge.specs.declared.places.MergePlace.{MergePlace}
use Rattle.dn_merge.specs.declared.places.MergePlace.TheVariants.{Gate, Mark, Directory, Header, Key, Walk, Pass}

-- What lane n's merger knows at each place of its turn.

-- it works on this record of its log: the mark stands where the record begins
pub record Works (n : ℕ) (p : Pool) (mark : ℕ) : Type 0 where
  pub mark_is : (store_in p).marks n ≡ mark
  pub of : Placed
  pub before : List Placed
  pub after : List Placed
  pub log : (store_in p).logs n ≡ before ++ of ∷ after
  pub merged : words_in before ≡ mark
  pub at : of.offset ≡ mark

-- what the index is to give for the record's key, by the place of the record
abbrev pub want_of : Change → Ref → Option ℕ
want_of Set at = Some (ref_word at)
want_of Remove at = None

-- a key is removed for its Delete, and set for any other record
abbrev pub IsNoDelete : Record → Type 0
IsNoDelete r = (k : ℕ) → r ≡ Delete k → ⊥

abbrev pub Suits : Change → Record → ℕ → Type 0
Suits Set r k = IsNoDelete r
Suits Remove r k = r ≡ Delete k

-- the index follows the record: it gives its place, or nothing where it is a Delete
abbrev pub Follows : (ℕ → Option ℕ) → Ref → Record → Type 0
Follows index at r = (k : ℕ) → is_authority k r ≡ true
    → ((index k ≡ Some (ref_word at)) × IsNoDelete r) ⊎ ((index k ≡ None) × (r ≡ Delete k))

-- ---- by the place
pub record AtHeader (n : ℕ) (p : Pool) (mark from : ℕ) : Type 0 where
  pub works : Works n p mark
  pub from_is : from ≡ place p.words n mark

pub record AtKey (n : ℕ) (p : Pool) (mark from to : ℕ) (change : Change) : Type 0 where
  pub works : Works n p mark
  pub from_is : from ≡ place p.words n mark
  pub to_is : to ≡ mark + length_in_words works.of.entry
  pub change_is : change_of (head_of works.of.entry) ≡ Some change

pub record AtWalk (n : ℕ) (p : Pool) (to : ℕ) (w : Walking) : Type 0 where
  pub mark : ℕ
  pub works : Works n p mark
  pub to_is : to ≡ mark + length_in_words works.of.entry
  pub positive : 0 < w.key
  pub authority : is_authority w.key works.of.entry ≡ true
  pub change : Change
  pub suits : Suits change works.of.entry w.key
  pub walk : KnowsWalk n w.key (want_of change (record { lane = n; offset = mark })) p w.place

pub record AtPass (n : ℕ) (p : Pool) (to : ℕ) : Type 0 where
  pub mark : ℕ
  pub works : Works n p mark
  pub to_is : to ≡ mark + length_in_words works.of.entry
  pub follows : Follows (store_in p).index (record { lane = n; offset = mark }) works.of.entry

abbrev pub KnowsMerge : ℕ → Pool → MergePlace → Type 0
KnowsMerge n p Gate = Unit {0}
KnowsMerge n p (Mark gate) = ((store_in p).marks n ≤ (gate_of gate).len)
    × ((gate_of gate).len ≤ ((store_in p).gates n).len)
KnowsMerge n p (Directory mark) = Works n p mark
KnowsMerge n p (Header mark from) = AtHeader n p mark from
KnowsMerge n p (Key mark from to change) = AtKey n p mark from to change
KnowsMerge n p (Walk to w) = AtWalk n p to w
KnowsMerge n p (Pass to) = AtPass n p to

pub record IsMergerAt (n : ℕ) (m : Merging) (p : Pool) : Type 0 where
  pub number : m.lane ≡ n
  pub knows : KnowsMerge n p m.place
