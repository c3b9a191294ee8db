-- What two lists of facts show, deny and give.
use Rattle.nntp_theory.{proofs.Members.{first_found, all_both, all_back, all_from, all_at}, specs.{Given.{first_given}, Together.{GiveOne}}}
use Rattle.nntp_theory.specs.Inner.Together.{GiveSame}
use Rattle.std.proofs.{Common.{◌≡◌, Bool, false, ◌||◌, IsTrue, List, [], ◌∷◌, ◌++◌, Option, None, refl, ap, ◌∙◌, arith}, lemmas.Bool.{true≢false, or_left}}
use Rattle.std.{proofs.lemmas.{Bool.{or_right, or_cases, false_from_ne_true}, List.Folds.{list_any-append}}, specs.{Prelude.{IsFalse}, List.{list_any}}}
use Rattle.std.specs.Option.{option_or}
use Rattle.nntp_said.specs.Facts.{Fact}

-- ---- tests

-- where no more fact passes, the test is as before
pub any_silent : (p : Fact → Bool) (facts more : List Fact) → list_any p more ≡ false → list_any p (facts ++ more) ≡ list_any p facts
any_silent p facts more none = grind (arith, list_any-append)

-- a test of one more
pub any_more : (p : Fact → Bool) (facts : List Fact) (fact : Fact) → list_any p (facts ++ fact ∷ []) ≡ (list_any p facts || p fact)
any_more p facts fact = grind (arith, list_any-append)

-- nothing is both shown and denied
abbrev pub Apart : (shows denies : Fact → Bool) → List Fact → Type 0
Apart shows denies facts = IsTrue (list_any shows facts) → IsFalse (list_any denies facts)

-- nothing is in both lists, if nothing is in either, or in one and in the other
pub apart_both : (shows denies : Fact → Bool) (facts more : List Fact) → Apart shows denies facts → Apart shows denies more
    → (IsTrue (list_any shows more) → IsFalse (list_any denies facts)) → (IsTrue (list_any denies more) → IsFalse (list_any shows facts)) → Apart shows denies (facts ++ more)
apart_both shows denies facts more before within shown denied s = grind (arith, false_from_ne_true, or_cases, list_any-append, true≢false)

-- and back
pub apart_shown : (shows denies : Fact → Bool) (facts more : List Fact) → Apart shows denies (facts ++ more) → IsTrue (list_any shows more) → IsFalse (list_any denies facts)
apart_shown shows denies facts more apart s = grind (arith, false_from_ne_true, true≢false, list_any-append, or_left, or_right)

pub apart_denied : (shows denies : Fact → Bool) (facts more : List Fact) → Apart shows denies (facts ++ more) → IsTrue (list_any denies more) → IsFalse (list_any shows facts)
apart_denied shows denies facts more apart d = grind (arith, false_from_ne_true, true≢false, list_any-append, or_right, or_left)

-- ---- what is given

-- what the first of both gives
pub given_append : {A B : Type 0} (f : B → Option A) (xs ys : List B) → first_given f (xs ++ ys) ≡ option_or (first_given f xs) (first_given f ys)
given_append f [] ys = refl
given_append {A} f (x ∷ xs) ys = grind (arith, given_append f xs ys)

-- where nothing more is given, what was is
pub or_none : {A : Type 0} (o : Option A) → option_or o None ≡ o
or_none o = grind arith

-- where more facts give nothing, what is given is as before
pub given_silent : {A : Type 0} (f : Fact → Option A) (facts more : List Fact) → first_given f more ≡ None → first_given f (facts ++ more) ≡ first_given f facts
given_silent f facts more none = given_append f facts more ∙ ap (λ o. option_or (first_given f facts) o) none ∙ or_none (first_given f facts)

-- two lists that each give one thing, and the same, give one thing
pub give_one_both : {A : Type 0} (f : Fact → Option A) (facts more : List Fact) → GiveOne f facts → GiveOne f more → GiveSame f facts more → GiveOne f (facts ++ more)
give_one_both {A} f facts more one within same = grind (arith, all_both, all_from, all_at, given_append)

-- and back
pub give_same_of_both : {A : Type 0} (f : Fact → Option A) (facts more : List Fact) → GiveOne f (facts ++ more) → GiveSame f facts more
give_same_of_both {A} f facts more one = grind (arith, first_found, all_at, all_back, given_append)
