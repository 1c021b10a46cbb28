use Rattle.std.specs.Prelude.{ℕ, ◌+◌, ◌==◌, zero, suc, Option, Some, None, nat_lt, if◌then◌else◌}
use Rattle.dn_word.specs.Ref.{ref_of, ref_word}
use Rattle.dn_word.specs.declared.packed.place.Ref.{Ref}
use Rattle.dn_model.specs.Regions.{bucket_at, home_of}
use Rattle.dn_model.specs.Program.{Program, Return, ◌>>=◌, load, store, add, Turn, Goes, Ends, Runs}
use Rattle.dn_index.specs.Walk.{Walking, spot, key_at, place_at, first_free, names_bucket, found, walk_next, walk_turn, walk_after}
use Rattle.dn_index.specs.declared.places.Spot.{Spot}
use Rattle.dn_index.specs.declared.places.WalkTurn.{WalkTurn}
use Rattle.dn_index.specs.declared.places.WalkTurn.TheVariants.{More, Found, Absent, Written, IndexFull}

-- What a chain comes to for a key: the place that has it, or the chain's last bucket and the first free place.
pub data Reached : Type 0 where
  At : Spot → Reached
  Out : ℕ → Option Spot → Reached

-- the first free place, once the three key words of bucket b are known too
abbrev pub free_after : ℕ → Option Spot → ℕ → ℕ → ℕ → Option Spot
free_after b free one two three = first_free (first_free (first_free free (spot b 1) one) (spot b 2) two) (spot b 3) three

-- a key word of bucket b, which ends the chain's walk where it is the key
abbrev pub key_word : ℕ → ℕ → ℕ → (ℕ → Program Reached) → Program Reached
key_word key b i behind = load (bucket_at b i) >>= λ word. if word == key then Return (At (spot b i)) else behind word

-- its next word: one that names no bucket, as 0, ends the chain
abbrev pub next_word : ℕ → Option Spot → (ℕ → Option Spot → Program Reached) → Program Reached
next_word b free onward = load (bucket_at b 7) >>= λ next. if names_bucket next then onward next free else Return (Out b free)

-- the key words of a bucket in turn until the key is met, and then the next word
abbrev pub in_bucket : (ℕ → Option Spot → Program Reached) → ℕ → ℕ → Option Spot → Program Reached
in_bucket onward key b free =
    key_word key b 1 (λ one. key_word key b 2 (λ two. key_word key b 3 (λ three. next_word b (free_after b free one two three) onward)))

-- from a bucket along the next words, over at most so many more buckets
abbrev pub along : ℕ → ℕ → ℕ → Option Spot → Program Reached
along zero key b free = in_bucket (λ next now. Return (Out b now)) key b free
along (suc left) key b free = in_bucket (λ next now. along left key next now) key b free

-- from the key's home bucket
abbrev pub chain : ℕ → Program Reached
chain key = along 4096 key (home_of key) None

-- ---- find
abbrev pub read_place : Reached → Program WalkTurn
read_place (At s) = load (place_at s) >>= λ word. Return (found (ref_of word))
read_place (Out last free) = Return Absent

abbrev pub find_program : ℕ → Program WalkTurn
find_program key = chain key >>= read_place

-- ---- set
-- the place word stands before its key
abbrev pub fill : ℕ → Ref → Spot → Program WalkTurn → Program WalkTurn
fill key at s behind = store (place_at s) (ref_word at) >>= λ place. store (key_at s) key >>= λ word. behind

-- key and place of a new bucket stand before it is linked
abbrev pub link : ℕ → ℕ → Program WalkTurn
link last new = store (bucket_at last 7) new >>= λ next. Return Written

-- a load of the overflow counter, then an add of 1: the old word is the number that was claimed
abbrev pub claim : (ℕ → Program WalkTurn) → Program WalkTurn
claim behind =
    load 3 >>= λ counter. if nat_lt counter 4096 then (add 3 1 >>= λ number. if nat_lt number 4096 then behind (4096 + number) else Return (IndexFull number)) else Return (IndexFull counter)

abbrev pub put : ℕ → Ref → Reached → Program WalkTurn
put key at (At s) = store (place_at s) (ref_word at) >>= λ place. Return Written
put key at (Out last (Some s)) = fill key at s (Return Written)
put key at (Out last None) = claim (λ new. fill key at (spot new 1) (link last new))

abbrev pub set_program : ℕ → Ref → Program WalkTurn
set_program key at = chain key >>= λ reached. put key at reached

-- ---- remove
abbrev pub clear : Reached → Program WalkTurn
clear (At s) = store (key_at s) 0 >>= λ key. Return Written
clear (Out last free) = Return Written

abbrev pub remove_program : ℕ → Program WalkTurn
remove_program key = chain key >>= clear

-- ---- the walk as a machine
-- a turn of the walk: it goes on, or ends with its answer
abbrev pub turn_by : WalkTurn → Walking → Turn Walking WalkTurn
turn_by More w = Goes w
turn_by (Found at) w = Ends (Found at)
turn_by Absent w = Ends Absent
turn_by Written w = Ends Written
turn_by (IndexFull counter) w = Ends (IndexFull counter)

abbrev pub walk_taken : Walking → ℕ → Turn Walking WalkTurn
walk_taken w word = turn_by (walk_turn w word) (walk_after w word)

-- the walk runs this program to its end
pub record Walks (w : Walking) (program : Program WalkTurn) : Type 0 where
  pub runs : Runs walk_next walk_taken program (Goes w)
