use Rattle.std.proofs.Common.{ℕ, ◌≡◌, ◌<◌, ◌≤◌, ◌+◌, Bool, true, false, List, [], ◌∷◌, drop, drop-cons, add-one, get_or, length, length-append, if◌then◌else◌, sym, ◌∙◌, ap, arith}
use Rattle.dn_script.specs.Asked.{calls_of, with_line, asked_behind}
use Rattle.dn_script.specs.declared.asked.AskedCall.{AskedCall}
use Rattle.dn_script.specs.declared.scripts.Line.{Line}
use Rattle.dn_script.specs.declared.scripts.Line.TheVariants as line

-- a line adds one call at most
pub one_more : (asked : List AskedCall) (x : Line) → length (with_line asked x) ≤ length asked + 1
one_more asked (line.Call s lane start call) = omega (arith, length-append asked ((record { session = s; number = calls_of s asked + 1; call = call }) ∷ []))
one_more asked (line.Step lane count) = omega arith
one_more asked (line.Flow lane index) = omega arith
one_more asked (line.Merge lane count) = omega arith
one_more asked (line.Monitor count) = omega arith
one_more asked line.Add = omega arith
one_more asked (line.Move start key lane) = omega arith
one_more asked (line.Fence lane) = omega arith
one_more asked (line.Takeover start lane) = omega arith
one_more asked line.Balance = omega arith
one_more asked (line.Remove lane) = omega arith
one_more asked (line.Stop lane) = omega arith
one_more asked (line.Fuse lane actions) = omega arith
one_more asked (line.Fail lane) = omega arith
one_more asked (line.Share key) = omega arith
one_more asked (line.Unshare key) = omega arith
one_more asked (line.Trim lane) = omega arith
one_more asked (line.Tell from to) = omega arith
one_more asked (line.Mix seed turns) = omega arith
one_more asked (line.Policy hot cold high low) = omega arith

-- the next line
pub behind_next : (asked : List AskedCall) (lines : List Line) (taken : List Bool) (at : ℕ) (d : Line) → at < length lines → at < length taken
    → asked_behind asked (drop at lines) (drop at taken) ≡ asked_behind (if get_or taken at false then with_line asked (get_or lines at d) else asked) (drop (at + 1) lines) (drop (at + 1) taken)
behind_next asked lines taken at d low below =
    let e : drop at lines ≡ get_or lines at d ∷ drop (at + 1) lines = rw (add-one) (drop-cons lines at d low) in
    let f : drop at taken ≡ get_or taken at false ∷ drop (at + 1) taken = rw (add-one) (drop-cons taken at false below) in
    ap (λ (xs : List Line). asked_behind asked xs (drop at taken)) e ∙ ap (λ (bs : List Bool). asked_behind asked (get_or lines at d ∷ drop (at + 1) lines) bs) f

pub behind_taken : (asked : List AskedCall) (lines : List Line) (taken : List Bool) (at : ℕ) (x : Line) → at < length lines → at < length taken → x ≡ get_or lines at x → get_or taken at false ≡ true
    → asked_behind (with_line asked x) (drop (at + 1) lines) (drop (at + 1) taken) ≡ asked_behind asked (drop at lines) (drop at taken)
behind_taken asked lines taken at x low below is yes_taken =
    let rest : (xs : List AskedCall) → List AskedCall = λ xs. asked_behind xs (drop (at + 1) lines) (drop (at + 1) taken) in
    ap (λ (y : Line). rest (with_line asked y)) is ∙ sym (ap (λ (b : Bool). rest (if b then with_line asked (get_or lines at x) else asked)) yes_taken) ∙ sym (behind_next asked lines taken at x low below)

pub behind_left : (asked : List AskedCall) (lines : List Line) (taken : List Bool) (at : ℕ) → at < length lines → at < length taken → get_or taken at false ≡ false
    → asked_behind asked (drop (at + 1) lines) (drop (at + 1) taken) ≡ asked_behind asked (drop at lines) (drop at taken)
behind_left asked lines taken at low below left =
    let rest : (xs : List AskedCall) → List AskedCall = λ xs. asked_behind xs (drop (at + 1) lines) (drop (at + 1) taken) in
    sym (ap (λ (b : Bool). rest (if b then with_line asked (get_or lines at line.Add) else asked)) left) ∙ sym (behind_next asked lines taken at line.Add low below)
