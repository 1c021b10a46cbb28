use Rattle.std.proofs.Common.{ℕ, ◌%◌, ◌^◌, ◌<◌, ◌≡◌, true, Some, refl, sym, ◌∙◌, ap, arith}
use Rattle.std.proofs.lemmas.Grind.{common_steps}
use Rattle.std.proofs.lemmas.Bool.Decides.{nat_tests}
use Rattle.dn_word.specs.declared.packed.header.Header.{Header}
use Rattle.dn_word.specs.Header.{header_of, header_word}
use Rattle.dn_record.specs.Head.{header_for, head_word, IsHead, HeadIs}
use Rattle.dn_record.specs.Reading.{named, fits, kept, head_in}
use Rattle.dn_record.specs.declared.heads.Head.{Head}
use Rattle.dn_record.specs.declared.heads.Head.TheVariants.{Put, Delete, Share, Unshare, Loose, LooseDelete, Pad}

header_again : (h : Header) → h.kind < 2 ^ 8 → h.bytes < 2 ^ 16 → h.cell < 2 ^ 16 → h.words < 2 ^ 16 → header_of (header_word h) ≡ h
header_again h a b c d = grind (arith, common_steps)

-- the header of a head of the grammar gives its fields back
pub header_kept : (head : Head) → IsHead head → header_of (head_word head) ≡ header_for head
header_kept (Put bytes) h = header_again (header_for (Put bytes)) (omega arith) (omega arith) (omega arith) (omega arith)
header_kept Delete h = refl
header_kept (Share cell) h = header_again (header_for (Share cell)) (omega arith) (omega arith) (omega arith) (omega arith)
header_kept Unshare h = refl
header_kept (Loose bytes) h = header_again (header_for (Loose bytes)) (omega arith) (omega arith) (omega arith) (omega arith)
header_kept LooseDelete h = refl
header_kept (Pad words) h = header_again (header_for (Pad words)) (omega arith) (omega arith) (omega arith) (omega arith)

named_again : (head : Head) → IsHead head → named (header_for head) ≡ Some head
named_again (Put bytes) h = refl
named_again Delete h = refl
named_again (Share cell) h = let e : cell % 2 ^ 8 ≡ cell = omega arith in ap (λ c. Some (Share c)) e
named_again Unshare h = refl
named_again (Loose bytes) h = refl
named_again LooseDelete h = refl
named_again (Pad words) h = refl

in_range : (head : Head) → IsHead head → fits head ≡ true
in_range (Put bytes) h = grind (arith, nat_tests)
in_range Delete h = refl
in_range (Share cell) h = grind (arith, nat_tests)
in_range Unshare h = refl
in_range (Loose bytes) h = grind (arith, nat_tests)
in_range LooseDelete h = refl
in_range (Pad words) h = grind (arith, nat_tests)

kept_by : (w : ℕ) (head : Head) → fits head ≡ true → head_word head ≡ w → kept w (Some head) ≡ Some head
kept_by w head f e = grind (arith, nat_tests)

-- a head is read from its own header
pub head_spelled : (w : ℕ) (head : Head) → HeadIs w head → head_in w ≡ Some head
head_spelled w head k =
    let e : header_of w ≡ header_for head = ap header_of (sym k.is_word) ∙ header_kept head k.is_head in
    ap (λ (h : Header). kept w (named h)) e ∙ ap (kept w) (named_again head k.is_head) ∙ kept_by w head (in_range head k.is_head) k.is_word
