-- The parts of octets between separators.
use Rattle.std.proofs.Common.{◌≡◌, ℕ, suc, ◌+◌, ◌<◌, List, [], ◌∷◌, ◌++◌, sym, ◌∙◌, ap, arith, false, take, drop, get_or, drop-cons, None, Some, get_or-take}
use Rattle.std.proofs.{Common.{length-take}, lemmas.{Bool.{false_from_ne_true}, List.{drop-drop, take-append-drop, Elements.{All-from_get_or}}}}
use Rattle.std.{proofs.lemmas.List.Splits.{slice_split_none, slice_split_at}, specs.{Prelude.{◌==◌}, List.{All, slice_split}}}
use Rattle.memchr.specs.Find.{IsFirstByte, is_byte}

-- the part before the first separator, and those behind it
pub parts-found : (c : ℕ) (bytes : List ℕ) (n : ℕ) → IsFirstByte (is_byte c) bytes (Some n) → slice_split (λ b. b == c) bytes ≡ take n bytes ∷ slice_split (λ b. b == c) (drop 1 (drop n bytes))
parts-found c bytes n found =
    let low = found.0.high in
    let whole : bytes ≡ take n bytes ++ get_or bytes n 0 ∷ drop (suc n) bytes = sym (take-append-drop n bytes) ∙ ap (λ t. take n bytes ++ t) (drop-cons bytes n 0 low) in
    let plain : All (λ b. (b == c) ≡ false) (take n bytes) = All-from_get_or (λ b. (b == c) ≡ false) (take n bytes) 0
    (λ (i : ℕ) h. let l : i < n = omega (arith, length-take n bytes) in rw (get_or-take n bytes i 0 l) (false_from_ne_true _ (found.0.before i (omega arith) l))) in
    let rest : drop (suc n) bytes ≡ drop 1 (drop n bytes) = let next : suc n ≡ n + 1 = omega arith in ap (λ k. drop k bytes) next ∙ sym (drop-drop 1 n bytes) in
    ap (slice_split (λ b. b == c)) whole ∙ slice_split_at (λ b. b == c) (take n bytes) (get_or bytes n 0) (drop (suc n) bytes) plain found.1 ∙ ap (λ t. take n bytes ∷ slice_split (λ b. b == c) t) rest

-- without a separator there is one part
pub parts-alone : (c : ℕ) (bytes : List ℕ) → IsFirstByte (is_byte c) bytes None → slice_split (λ b. b == c) bytes ≡ bytes ∷ []
parts-alone c bytes none = slice_split_none (λ b. b == c) bytes (All-from_get_or (λ b. (b == c) ≡ false) bytes 0 (λ k h. false_from_ne_true _ (none k (omega arith) h)))
