use Rattle.std.proofs.Common.{◌≡◌, Result, Ok, Err, OnOk, IfOk, IfErr, sym, subst}
use Rattle.dn_play.specs.declared.stops.Stop.{Stop}
use Rattle.dn_play.specs.declared.stops.Stop.TheVariants.{OutOfMemory}

-- What follows from an Ok or an Err follows from all that it tells.

pub on_ok : {T E P Q : Type 0} (result : Result T E) → (P → Q) → OnOk result P → OnOk result Q
on_ok (Ok x) f h = f h
on_ok (Err e) f h = tt

pub if_ok : {T E : Type 0} {P : T → Type 0} (result : Result T E) (Q : T → Type 0) → ((x : T) → P x → Q x) → IfOk result P → IfOk result Q
if_ok (Ok x) Q f h = f x h
if_ok (Err e) Q f h = tt

pub if_err : {T E : Type 0} {P : E → Type 0} (result : Result T E) (Q : E → Type 0) → ((e : E) → P e → Q e) → IfErr result P → IfErr result Q
if_err (Ok x) Q f h = tt
if_err (Err e) Q f h = f e h

-- A line is printed, or memory is wanting.
pub if_unprinted : {T : Type 0} (result : Result T Stop) (P : Stop → Type 0) → P OutOfMemory → IfErr result (λ stop. stop ≡ OutOfMemory) → IfErr result P
if_unprinted (Ok x) P p h = tt
if_unprinted (Err stop) P p h = subst P (sym h) p
