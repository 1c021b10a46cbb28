use Rattle.std.proofs.Common.{◌≡◌, ◌<◌, ◌≤◌, ◌+◌, ◌∙◌, ℕ, List, [], ◌∷◌, ◌++◌, length, drop, get_or, ap, sym}
use Rattle.std.proofs.lemmas.List.{at_drop_more, drop_all, append_assoc, append-nil}
use Rattle.hex.specs.Hex.{encode_with}
use Rattle.dn_print.specs.Piece.{hex_text}

-- the digits of the next byte, and of those behind it
hex_step : (bytes : List ℕ) (i d : ℕ) → i < length bytes → hex_text (drop i bytes) ≡ hex_text (get_or bytes i d ∷ []) ++ hex_text (drop (i + 1) bytes)
unfolding encode_with
hex_step bytes i d lt = at_drop_more hex_text bytes i d lt

pub hex_more : (old out now bytes : List ℕ) (i d byte : ℕ) → i < length bytes → byte ≡ get_or bytes i d → now ≡ out ++ hex_text (byte ∷ [])
    → out ++ hex_text (drop i bytes) ≡ old ++ hex_text bytes → now ++ hex_text (drop (i + 1) bytes) ≡ old ++ hex_text bytes
hex_more old out now bytes i d byte lt at is whole =
    ap (λ xs. xs ++ hex_text (drop (i + 1) bytes)) is
    ∙ append_assoc out (hex_text (byte ∷ [])) (hex_text (drop (i + 1) bytes))
    ∙ ap (λ b. out ++ (hex_text (b ∷ []) ++ hex_text (drop (i + 1) bytes))) at
    ∙ ap (λ xs. out ++ xs) (sym (hex_step bytes i d lt))
    ∙ whole

pub hex_done : (old out bytes : List ℕ) (i : ℕ) → length bytes ≤ i → out ++ hex_text (drop i bytes) ≡ old ++ hex_text bytes → out ≡ old ++ hex_text bytes
unfolding encode_with
hex_done old out bytes i le whole = sym (append-nil out) ∙ sym (ap (λ xs. out ++ hex_text xs) (drop_all i bytes le)) ∙ whole
