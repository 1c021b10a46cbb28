use Rattle.std.proofs.Common.{ℕ, ◌/◌, ◌≡◌, sym, ◌∙◌, ap, arith}
use Rattle.dn_word.specs.declared.packed.place.Ref.{Ref}
use Rattle.dn_record.specs.declared.records.Record.{Record}
use Rattle.dn_model.specs.Regions.{place, place_in}
use Rattle.dn_model.specs.Held.{entry_at}
use Rattle.dn_owners.proofs.Last.{entry_more}
use Rattle.dn_locate.specs.Fetch.{Fetching}
use Rattle.dn_locate.specs.declared.fetches.FetchPlace.{FetchPlace}
use Rattle.dn_locate.specs.declared.fetches.FetchPlace.TheVariants.{Idle, Directory, Header, Content, Link}
use Rattle.dn_locate.specs.declared.fetches.Wish.{Wish}
use Rattle.dn_beside.specs.Pool.{Pool, store_in, IsWhole}
use Rattle.dn_beside.specs.Grown.{Grows}
use Rattle.dn_seek.specs.Sealed.{IsSealed}
use Rattle.dn_seek.specs.Fetching.{IsAt, LoadedAt, KnowsFetch, Brings}
use Rattle.dn_seek.proofs.Spelled.{IsSpelled, spelled}

-- What is known of a sealed record lasts.

pub sealed_lasts : (p q : Pool) (key : ℕ) (r : Record) (at : Ref) → Grows p q → IsSealed p key r at → IsSealed q key r at
sealed_lasts p q key r at g h =
    let m = g.later.logs at.lane in
    record {
      there = ap (entry_at at.offset) m.1 ∙ entry_more at.offset ((store_in p).logs at.lane) m.0 r h.there;
      of_key = h.of_key;
      plain = h.plain;
    }

place_lasts : (p q : Pool) (key : ℕ) (r : Record) (at : Ref) → IsWhole p → Grows p q → IsSealed p key r at → place p.words at.lane at.offset ≡ place q.words at.lane at.offset
place_lasts p q key r at w g h =
    let s : IsSpelled p r at = spelled p r at w h.there in
    sym (ap (λ x. place_in x at.offset) (g.named at.lane (at.offset / 1024) s.lane (omega (arith, s.some, s.inside))))

loaded_lasts : (p q : Pool) (r : Record) (f : Fetching) (at_place : FetchPlace) → ((from : ℕ) → IsAt p f from → IsAt q f from) → LoadedAt p r f at_place → LoadedAt q r f at_place
loaded_lasts p q r f Idle at h = h
loaded_lasts p q r f Directory at h = h
loaded_lasts p q r f (Header from) at h = (h.0, at from h.1)
loaded_lasts p q r f (Content from count) at h = record {
  wished = h.wished;
  put = h.put;
  begins = at from h.begins;
  whole = h.whole;
  so_far = h.so_far;
  some = h.some;
  more = h.more;
}
loaded_lasts p q r f (Link from) at h = h

pub fetch_lasts : (p q : Pool) (key : ℕ) (wish : Wish) (r : Record) (f : Fetching) → IsWhole p → Grows p q → KnowsFetch p key wish r f → KnowsFetch q key wish r f
fetch_lasts p q key wish r f w g h = record {
  sealed = sealed_lasts p q key r f.at g h.sealed;
  key_is = h.key_is;
  wish_is = h.wish_is;
  segments_is = h.segments_is ∙ sym g.pool;
  loaded = loaded_lasts p q r f f.place (λ from e. e ∙ place_lasts p q key r f.at w g h.sealed) h.loaded;
}

pub brings_lasts : (p q : Pool) (key : ℕ) (wish : Wish) (r : Record) (f : Fetching) → Grows p q → Brings p key wish r f → Brings q key wish r f
brings_lasts p q key wish r f g h = record { sealed = sealed_lasts p q key r f.at g h.sealed; words_are = h.words_are }
