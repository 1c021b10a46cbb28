use Rattle.std.proofs.Common.{ℕ, ◌<◌, ◌≡◌, inl, inr, Bool, true, false, List, Option, Some, None, refl, sym, ◌∙◌, ap, subst, if◌then◌else◌, arith}
use Rattle.std.proofs.lemmas.Bool.{false≢true}
use Rattle.std.proofs.lemmas.Bool.Decides.{nat_tests}
use Rattle.dn_word.specs.Ref.{ref_of}
use Rattle.dn_word.specs.declared.packed.place.Ref.{Ref}
use Rattle.dn_act.specs.Action.{Performs}
use Rattle.dn_record.specs.Record.{value_of}
use Rattle.dn_record.specs.declared.records.Record.{Record}
use Rattle.dn_record.specs.declared.records.Record.TheVariants.{Put, Delete, Share, Unshare, Loose, LooseDelete, Pad}
use Rattle.dn_model.specs.Regions.{slot_of}
use Rattle.dn_model.specs.OneLog.{is_plain}
use Rattle.dn_model.specs.Held.{Says, Astray, is_authority, unmerged, record_at, led_to, indexed, authority_by, entry_at, held_from}
use Rattle.dn_index.specs.Walk.{Walking, walk_next, walk_step, after_of, turn_of}
use Rattle.dn_index.specs.declared.places.Step.{Step}
use Rattle.dn_index.specs.declared.places.Step.TheVariants.{On, End}
use Rattle.dn_index.specs.declared.places.WalkTurn.TheVariants as turned
use Rattle.dn_locate.specs.Fetch.{Fetching, started as fetch_started, fetch_after, fetch_turn}
use Rattle.dn_locate.specs.declared.fetches.FetchTurn.{FetchTurn}
use Rattle.dn_locate.specs.declared.fetches.FetchTurn.TheVariants as loaded
use Rattle.dn_locate.specs.declared.fetches.Wish.{Wish}
use Rattle.dn_plan.specs.declared.phases.Way.{Way}
use Rattle.dn_plan.specs.declared.phases.Way.TheVariants.{Index}
use Rattle.dn_find.specs.Find.{find_next, walked_by, fetched_by, found_of}
use Rattle.dn_find.specs.declared.finds.Find.{Find}
use Rattle.dn_find.specs.declared.finds.Find.TheVariants.{Walk, Fetch}
use Rattle.dn_store.specs.State.{StoreState}
use Rattle.dn_store.specs.Holding.{owner_in, waiting, authority_in, holds}
use Rattle.dn_owners.specs.declared.plain.Pending.{Pending as PendingAt}
use Rattle.dn_owners.specs.Known.{Look}
use Rattle.dn_owners.specs.Merging.{IsRecordOf}
use Rattle.dn_owners.specs.Sound.{Agrees}
use Rattle.dn_owners.proofs.Ats.{none_some}
use Rattle.dn_owners.proofs.Logs.{ordered}
use Rattle.dn_beside.specs.Pool.{Pool, store_in, IsWhole}
use Rattle.dn_beside.specs.Grown.{Grows}
use Rattle.dn_beside.specs.Lanes.{LeavesKey, LeavesLane}
use Rattle.dn_walks.specs.Finding.{KnowsFind, KnowsFound}
use Rattle.dn_walks.proofs.Finding.{find_steps, find_loads}
use Rattle.dn_walks.proofs.Lasts.{find_lasts}
use Rattle.dn_seek.specs.Fetching.{Fetched}
use Rattle.dn_seek.specs.Located.{IsLocatedAs}
use Rattle.dn_seek.specs.Seeking.{KnowsWalk, KnowsRecord, KnowsSeek, KnowsSought}
use Rattle.dn_seek.proofs.Contents.{fetch_goes}
use Rattle.dn_seek.proofs.Lasting.{fetch_lasts, brings_lasts}
use Rattle.dn_seek.proofs.Logs.{has_entry, entry_of_log, IsOf, none_later}

-- How a location begins, goes on, ends, and what of it lasts.

-- ---- a record that a place names
plain_at : (p : Pool) (at : Ref) (r : Record) → IsWhole p → record_at (store_in p).logs (Some at) ≡ Some r → is_plain r ≡ true
plain_at p at r w e =
    let h : IsOf ((store_in p).logs at.lane) r = entry_of_log at.offset ((store_in p).logs at.lane) r e in
    sym (ap is_plain h.is) ∙ w.plain at.lane h.of h.has

fetch_begun : (p : Pool) (key : ℕ) (wish : Wish) (f : Fetching) (at : Ref) (r : Record) → IsWhole p → f.segments ≡ (store_in p).pool → record_at (store_in p).logs (Some at) ≡ Some r → is_authority key r ≡ true
    → Agrees (authority_in (store_in p) key) key r → KnowsRecord p key wish (fetch_started f key at wish)
fetch_begun p key wish f at r w e there a g = record {
  of = r;
  fetch = record {
    sealed = record { there = there; of_key = a; plain = plain_at p at r w there };
    key_is = refl;
    wish_is = refl;
    segments_is = e;
    loaded = refl;
  };
  agrees = g;
}

-- by a pending record
pub begun_pending : (p : Pool) (n key : ℕ) (wish : Wish) (f : Fetching) (at : Ref) (q : PendingAt) → IsWhole p → f.segments ≡ (store_in p).pool → IsRecordOf p.owners n key q → at.lane ≡ n → at.offset ≡ q.offset
    → KnowsRecord p key wish (fetch_started f key at wish)
begun_pending p n key wish f at q w e h lane offset =
    let i = ordered p.words p.chains (store_in p) w.represents in
    let there : record_at (store_in p).logs (Some at) ≡ Some h.of.entry =
    ap (λ m. entry_at at.offset ((store_in p).logs m)) lane ∙ ap (λ o. entry_at o ((store_in p).logs n)) (offset ∙ sym h.at) ∙ has_entry 0 ((store_in p).logs n) h.of (i.rise n) h.has in
    fetch_begun p key wish f at h.of.entry w e there h.authority h.agrees

-- ---- what the index gives is the authority
by_index : (s : StoreState) (n k : ℕ) (place : Option ℕ) → owner_in s k ≡ n → waiting s n k ≡ None → s.index k ≡ place → authority_in s k ≡ indexed s.logs k place
by_index s n k place owner none e =
    ap (λ x. authority_by s.logs k x (s.index k)) (ap (λ m. waiting s m k) owner ∙ none) ∙ ap (indexed s.logs k) e

led : (k : ℕ) (o : Option Record) (r : Record) → o ≡ Some r → is_authority k r ≡ true → led_to k o ≡ Says (Some r)
led k o r e a = ap (led_to k) e ∙ ap (λ b. if b then Says (Some r) else Astray) a

-- ---- the walk
located_none : (p : Pool) (key : ℕ) (wish : Wish) (f : Fetching) → authority_in (store_in p) key ≡ Says None → IsLocatedAs p key wish f Index false
located_none p key wish f e = record {
  of = Delete key;
  agrees = inr (e, refl);
  of_key = grind (arith, nat_tests);
  plain = refl;
  brings = λ t. absurd (false≢true t);
  without = λ t. (refl, refl);
}

walked_goes : (p : Pool) (n key : ℕ) (wish : Wish) (f : Fetching) (w : Walking) (step : Step) → IsWhole p → KnowsWalk p n key f w → KnowsFound p.words p.chains (store_in p).index key step
    → KnowsSought p n key wish (walked_by f key wish (after_of w step) (turn_of step)).fetch (walked_by f key wish (after_of w step) (turn_of step)).found
walked_goes p n key wish f w (On place) h k a = record { key_is = k.key_is; owner = k.owner; none = k.none; finds = a; segments_is = k.segments_is }
walked_goes p n key wish f w (End turned.More) h k a = absurd a
walked_goes p n key wish f w (End (turned.Found at)) h k a =
    let s : StoreState = store_in p in
    let l = h.sound.leading.leads key a.0 a.1 in
    let there : record_at s.logs (Some at) ≡ Some l.0 = ap (record_at s.logs) (sym a.2) ∙ l.1 in
    let says : authority_in s key ≡ Says (Some l.0) = by_index s n key (Some a.0) k.owner k.none a.1 ∙ led key (record_at s.logs (ref_of a.0)) l.0 l.1 l.2 in
    fetch_begun p key wish f at l.0 h k.segments_is there l.2 (inl says)
walked_goes p n key wish f w (End turned.Absent) h k a =
    let s : StoreState = store_in p in
    elim a [
      | inl e ↦ located_none p key wish f (by_index s n key None k.owner k.none e)
      | inr e ↦ (let l = h.sound.leading.leads key e.0 e.1 in absurd (none_some l.0 (sym (ap (record_at s.logs) e.2) ∙ l.1)))
    ]
walked_goes p n key wish f w (End turned.Written) h k a = absurd a
walked_goes p n key wish f w (End (turned.IndexFull counter)) h k a = absurd a

abbrev pub SeekGoes : Pool → ℕ → ℕ → Wish → Fetching → Find → ℕ → List ℕ → Type 0
SeekGoes p n key wish f find word now = (now ≡ p.words) × KnowsSought p n key wish (found_of f key wish find word).fetch (found_of f key wish find word).found

walk_goes : (p : Pool) (n key : ℕ) (wish : Wish) (f : Fetching) (w : Walking) (word : ℕ) (now : List ℕ) → IsWhole p → 0 < key → KnowsWalk p n key f w → Performs (walk_next w) word p.words now → SeekGoes p n key wish f (Walk w) word now
walk_goes p n key wish f w word now h pos k a =
    let finds : KnowsFind p.words p.chains w.key w.place = subst (λ x. KnowsFind p.words p.chains x w.place) (sym k.key_is) k.finds in
    let some : 0 < w.key = omega (arith, pos, k.key_is) in
    let found : KnowsFound p.words p.chains (store_in p).index w.key (walk_step w word) = find_steps p.words p.chains (store_in p) w.key w.place word h.represents some finds a.answer in (
      find_loads p.words now p.chains w.key w.place word finds a,
      walked_goes p n key wish f w (walk_step w word) h k (subst (λ x. KnowsFound p.words p.chains (store_in p).index x (walk_step w word)) k.key_is found),
    )

-- ---- the fetch
fetched_goes : (p : Pool) (n key : ℕ) (wish : Wish) (r : Record) (way : Way) (f : Fetching) (turn : FetchTurn) → Agrees (authority_in (store_in p) key) key r → Fetched p key wish r f turn
    → KnowsSought p n key wish (fetched_by way f turn).fetch (fetched_by way f turn).found
fetched_goes p n key wish r way f loaded.More g h = record { of = r; fetch = h; agrees = g }
fetched_goes p n key wish r way f loaded.Done g h = record {
  of = r;
  agrees = g;
  of_key = h.sealed.of_key;
  plain = h.sealed.plain;
  brings = λ t. h;
  without = λ t. absurd (false≢true (sym t));
}
fetched_goes p n key wish r way f loaded.Absent g h = absurd h

pub seek_goes : (p : Pool) (n key : ℕ) (wish : Wish) (f : Fetching) (find : Find) (word : ℕ) (now : List ℕ) → IsWhole p → 0 < key → KnowsSeek p n key wish f find → Performs (find_next f find) word p.words now
    → SeekGoes p n key wish f find word now
seek_goes p n key wish f (Walk w) word now h pos k a = walk_goes p n key wish f w word now h pos k a
seek_goes p n key wish f (Fetch way) word now h pos k a =
    let g = fetch_goes p key wish k.of f word now h k.fetch a in
    (g.0, fetched_goes p n key wish k.of way (fetch_after f word) (fetch_turn f word) k.agrees g.1)

-- ---- what lasts
-- of a key at whose slot the lane has looked, while its gate has no bit
pub record Stays (n key : ℕ) (p q : Pool) : Type 0 where
  pub leaves : LeavesKey n key p q
  pub log : (store_in q).logs n ≡ (store_in p).logs n
  pub grows : Grows p q

pub stays : (p q : Pool) (n key : ℕ) (l : Look) → Grows p q → LeavesLane n p q → 0 < key → (p.owners.knows n).look ≡ Some l → slot_of key ≡ l.slot → ((store_in q).gates n).fenced ≡ false → Stays n key p q
stays p q n key l g v pos look slot clear = record { leaves = v.keys key l pos look slot clear; log = v.log; grows = g }

owner_stays : (q : Pool) (n key : ℕ) (l : Look) → IsWhole q → (q.owners.knows n).look ≡ Some l → slot_of key ≡ l.slot → ((store_in q).gates n).fenced ≡ false → owner_in (store_in q) key ≡ n
owner_stays q n key l w look slot clear = ap (λ t. ((store_in q).deeds t).lane) slot ∙ ((w.sound.looks n).held l look clear).names

walk_lasts : (p q : Pool) (n key : ℕ) (f : Fetching) (w : Walking) → Stays n key p q → owner_in (store_in q) key ≡ n → KnowsWalk p n key f w → KnowsWalk q n key f w
walk_lasts p q n key f w s owner k =
    let none : waiting (store_in q) n key ≡ None =
    ap (unmerged key ((store_in q).marks n)) s.log ∙ none_later key ((store_in p).marks n) ((store_in q).marks n) ((store_in p).logs n) (s.grows.later.marks n) k.none in
    record {
      key_is = k.key_is;
      owner = owner;
      none = none;
      finds = find_lasts key w.place p q (s.leaves.found k.none) k.finds;
      segments_is = k.segments_is ∙ sym s.grows.pool;
    }

pub seek_lasts : (p q : Pool) (n key : ℕ) (wish : Wish) (f : Fetching) (find : Find) → IsWhole p → Stays n key p q → owner_in (store_in q) key ≡ n → KnowsSeek p n key wish f find → KnowsSeek q n key wish f find
seek_lasts p q n key wish f (Walk w) h s owner k = walk_lasts p q n key f w s owner k
seek_lasts p q n key wish f (Fetch way) h s owner k = record { of = k.of; fetch = fetch_lasts p q key wish k.of f h s.grows k.fetch; agrees = s.leaves.located k.of k.agrees }

pub looked_lasts : (p q : Pool) (n key : ℕ) (wish : Wish) (f : Fetching) (find : Find) (l : Look) → IsWhole p → IsWhole q → Grows p q → LeavesLane n p q → 0 < key → (p.owners.knows n).look ≡ Some l → slot_of key ≡ l.slot
    → ((store_in q).gates n).fenced ≡ false → KnowsSeek p n key wish f find → KnowsSeek q n key wish f find
looked_lasts p q n key wish f find l h w g v pos look slot clear k =
    let later : (q.owners.knows n).look ≡ Some l = ap (λ x. x.look) v.knows ∙ look in
    seek_lasts p q n key wish f find h (stays p q n key l g v pos look slot clear) (owner_stays q n key l w later slot clear) k

pub located_lasts : (p q : Pool) (n key : ℕ) (wish : Wish) (f : Fetching) (way : Way) (fetched : Bool) → Stays n key p q → IsLocatedAs p key wish f way fetched → IsLocatedAs q key wish f way fetched
located_lasts p q n key wish f way fetched s k = record {
  of = k.of;
  agrees = s.leaves.located k.of k.agrees;
  of_key = k.of_key;
  plain = k.plain;
  brings = λ t. brings_lasts p q key wish k.of f s.grows (k.brings t);
  without = k.without;
}

-- ---- what is held
said_by : (s : StoreState) (k : ℕ) (r : Record) → is_authority k r ≡ true → is_plain r ≡ true → held_from s.cells s.logs k (Says (Some r)) ≡ Says (value_of r)
said_by s k (Put key value) a p = refl
said_by s k (Delete key) a p = refl
said_by s k (Share key j opening) a p = absurd (false≢true p)
said_by s k (Unshare key at) a p = absurd (false≢true p)
said_by s k (Loose key value) a p = absurd (false≢true a)
said_by s k (LooseDelete key) a p = absurd (false≢true a)
said_by s k (Pad words) a p = absurd (false≢true a)

pub agreed_held : (s : StoreState) (k : ℕ) (r : Record) → is_authority k r ≡ true → is_plain r ≡ true → Agrees (authority_in s k) k r → holds s k ≡ Says (value_of r)
agreed_held s k r a p g = elim g [
  | inl e ↦ ap (held_from s.cells s.logs k) e ∙ said_by s k r a p
  | inr e ↦ ap (held_from s.cells s.logs k) e.0 ∙ sym (ap (λ x. Says (value_of x)) e.1)
]
