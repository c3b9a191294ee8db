-- The arguments and the lines that a reason counts.
use Rattle.std.proofs.Common.{arith, ◌≡◌, ℕ, ◌+◌, ◌<◌, true, false, List, [], ◌∷◌, ◌++◌, None, Some, refl, sym, ap, ◌∙◌, cond, length, drop, get_or, drop-cons}
use Rattle.std.{proofs.{Common.{add-one, inl, inr, ◌==◌, not, IsTrue}, lemmas.Bool.{cases_Bool, and_parts, not-true, and_from}}, specs.List.{list_all}}
use Rattle.std.specs.List.{slice_split}
use Rattle.nntp_wire.specs.{Argument.{no_space, is_comment, BeginsWithArgument}, Reason.{unless, first}, Misspelling.{is_space, arguments_of, is_argument}}
use Rattle.nntp_wire.specs.{Misspelling.{argument_misspelling, line_fault, kind_behind, line_misspelling}, declared.kind.Kind.{Kind}}
use Rattle.nntp_wire.{specs.{declared.misspelling.{Misspelling.TheVariants.{WrongArgument}, Due.{Due}}, Octets.{space}}, proofs.Reasons.{first_alone}}

-- ---- arguments

-- the octets before the first space, and those from it on
record UpToSpace (bytes : List ℕ) : Type 0 where
  word : List ℕ
  rest : List ℕ
  whole : bytes ≡ word ++ rest
  spaceless : IsTrue (list_all no_space word)
  ended : IsTrue (is_comment rest)

up_to_space : (bytes : List ℕ) → UpToSpace bytes
up_to_space [] = record { word = []; rest = []; whole = refl; spaceless = refl; ended = refl }
up_to_space (b ∷ bs) = elim (cases_Bool (b == space)) [
  | inl e ↦ record { word = []; rest = b ∷ bs; whole = refl; spaceless = refl; ended = e }
  | inr f ↦
      let w = up_to_space bs in
      record {
        word = b ∷ w.word;
        rest = w.rest;
        whole = ap (λ t. b ∷ t) w.whole;
        spaceless = and_from (no_space b) (list_all no_space w.word) (ap not f) w.spaceless;
        ended = w.ended;
      }
]

-- octets up to a space are the first part
split_word : (word rest : List ℕ) → list_all no_space word ≡ true → is_comment rest ≡ true → slice_split is_space (word ++ rest) ≡ word ∷ arguments_of rest
split_word [] rest spaceless ended = grind arith
split_word (a ∷ word) rest spaceless ended = grind (arith, and_parts, not-true, split_word word rest)

-- the first argument, and those behind it
pub argument-first : (bytes word rest : List ℕ) → BeginsWithArgument bytes word rest → arguments_of bytes ≡ word ∷ arguments_of rest
argument-first bytes word rest a = ap arguments_of a.whole ∙ split_word word rest a.spaceless a.ended

-- an argument stands behind a space, whatever follows
pub argument-some : (b : ℕ) (bs : List ℕ) → is_space b ≡ true → (word : List ℕ) × (rest : List ℕ) × BeginsWithArgument (b ∷ bs) word rest
argument-some b bs is =
    let w = up_to_space bs in
    grind arith

pub argument-none : (bytes : List ℕ) → ((word rest : List ℕ) → ¬ (BeginsWithArgument bytes word rest)) → arguments_of bytes ≡ []
argument-none [] none = refl
argument-none (b ∷ bs) none = elim (cases_Bool (is_space b)) [
  | inl is ↦ (let a = argument-some b bs is in absurd (none a.0 a.1 a.2))
  | inr other ↦ ap (λ t. cond t (slice_split is_space bs) []) other
]

-- what is due next, and what is due behind it
due-next : (dues : List Due) (index : ℕ) (d due : Due) → index < length dues → due ≡ get_or dues index d → drop index dues ≡ due ∷ drop (index + 1) dues
due-next dues index d due low is = rw add-one (drop-cons dues index d low) ∙ ap (λ d. d ∷ drop (index + 1) dues) (sym is)

-- below, something is due
module _ (place index : ℕ) (dues : List Due) (d due : Due) (low : index < length dues) (is : due ≡ get_or dues index d) where
  pub argument-missing : (arguments : List (List ℕ)) → arguments ≡ [] → argument_misspelling place (drop index dues) arguments ≡ Some (WrongArgument place due)
  argument-missing arguments none = ap (λ words. argument_misspelling place (drop index dues) words) none ∙ ap (λ ds. argument_misspelling place ds []) (due-next dues index d due low is)

  at_word : (arguments more : List (List ℕ)) (word : List ℕ) → arguments ≡ word ∷ more
      → argument_misspelling place (drop index dues) arguments
      ≡ first (unless (is_argument due word) (WrongArgument place due) ∷ argument_misspelling (place + 1) (drop (index + 1) dues) more ∷ [])
  at_word arguments more word e =
      ap (λ words. argument_misspelling place (drop index dues) words) e ∙ ap (λ ds. argument_misspelling place ds (word ∷ more)) (due-next dues index d due low is)

  pub argument-wrong : (arguments more : List (List ℕ)) (word : List ℕ) → arguments ≡ word ∷ more → is_argument due word ≡ false
      → argument_misspelling place (drop index dues) arguments ≡ Some (WrongArgument place due)
  argument-wrong arguments more word e other =
      at_word arguments more word e
      ∙ ap (λ b. first (unless b (WrongArgument place due) ∷ argument_misspelling (place + 1) (drop (index + 1) dues) more ∷ [])) other

  pub argument-right : (arguments more : List (List ℕ)) (word : List ℕ) → arguments ≡ word ∷ more → is_argument due word ≡ true
      → argument_misspelling place (drop index dues) arguments ≡ argument_misspelling (place + 1) (drop (index + 1) dues) more
  argument-right arguments more word e right =
      at_word arguments more word e
      ∙ ap (λ b. first (unless b (WrongArgument place due) ∷ argument_misspelling (place + 1) (drop (index + 1) dues) more ∷ [])) right
      ∙ first_alone (argument_misspelling (place + 1) (drop (index + 1) dues) more)

-- ---- lines

pub line-right : (kind : Kind) (place : ℕ) (line : List ℕ) (lines : List (List ℕ)) → None ≡ line_fault kind line
    → line_misspelling kind place (line ∷ lines) ≡ line_misspelling (kind_behind kind) (place + 1) lines
line-right kind place line lines e = grind arith
