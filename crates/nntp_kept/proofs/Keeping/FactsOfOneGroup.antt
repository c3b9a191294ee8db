-- Facts of one group, or of none: what they ask of its numbers, the ids that they give, how they join what was said, and what is kept then.
use Rattle.nntp_kept.proofs.Base.{◌≡◌, ℕ, false, ◌==◌, cond, List, [], Option, None, Some, refl, sym, ap, ◌∙◌, arith, ◌++◌, subst, append-nil, eqb-true, eq-eqb}
use Rattle.nntp_kept.proofs.Base.{◌↔◌, nat_cmp, eq_by_cmp, slice_cmp, same_text, nat_list_cmp_total, Id, Name, is_same, Ask, Fact, asks_of, first_given, id_in}
use Rattle.nntp_kept.proofs.Base.{shows_group, number_in, JoinIds, AsksStand, Together, JoinNumbers, same_itself, FinMap, insert, get-insert, any_silent}
use Rattle.nntp_kept.proofs.Base.{given_silent, asks_append, told, MayShow, id_of, place_of, KeptGroup, Told, IsUntold, AreKept, Bool, true}
use Rattle.nntp_kept.specs.Inner.Kept.{IsKeptGroup}
use Rattle.nntp_kept_articles.proofs.TextKeys.{flip_text}

-- ---- asks

-- the facts ask this of the group, and nothing of others
abbrev pub AskOf : Name → List Ask → List Fact → Type 0
AskOf here asks more = (name : Name) → asks_of name more ≡ cond (is_same here name) asks []

pub asked_here : (here : Name) (asks : List Ask) (more : List Fact) → AskOf here asks more → asks_of here more ≡ asks
asked_here here asks more is = is here ∙ ap (λ b. cond b asks []) (same_itself here)

pub asked_elsewhere : (here : Name) (asks : List Ask) (more : List Fact) → AskOf here asks more → (name : Name) → is_same here name ≡ false → asks_of name more ≡ []
asked_elsewhere here asks more is name e = is name ∙ ap (λ b. cond b asks []) e

-- ---- an id at a number

-- the facts give this id at its number of the group, if there is one, and no other
pub record GivesId (here : Name) (id : Option (ℕ × Id)) (more : List Fact) : Type 0 where
  pub ids : (name : Name) (m : ℕ) → first_given (id_in name m) more ≡ cond (is_same here name) (id_of id m) None
  pub places : (name : Name) (i : Id) → first_given (number_in name i) more ≡ cond (is_same here name) (place_of id i) None

-- it joins exactly if its number may have it
pub gives_joins : (facts more : List Fact) (here : Name) (id : Option (ℕ × Id)) → GivesId here id more → JoinIds facts more ↔ MayShow (told facts here) id
gives_joins facts more here None is = (λ j. tt, λ _. record { ids = λ name n. grind (arith, is.ids name n); ids_once = λ name i. grind (arith, is.places name i) })
gives_joins facts more here (Some e) is = (
  λ j. (
    grind (arith, j.ids here e.0, is.ids here e.0, same_itself here, eq-eqb e.0 e.0 refl),
    grind (arith, j.ids_once here e.1, is.places here e.1, same_itself here, same_itself e.1),
  ),
  λ h. record {
    ids = λ name m. grind (arith, is.ids name m, h.0, same_text here name, eqb-true e.0 m);
    ids_once = λ name i. grind (arith, is.places name i, h.1, same_text here name, same_text e.1 i);
  },
)

-- ---- the same key, either way

pub flip_number : (k n : ℕ) → eq_by_cmp nat_cmp k n ≡ (n == k)
flip_number k n = grind arith

-- ---- ids at numbers

-- the facts give no id at a number
pub record GiveNoIds (more : List Fact) : Type 0 where
  pub ids : (name : Name) (n : ℕ) → first_given (id_in name n) more ≡ None
  pub places : (name : Name) (id : Id) → first_given (number_in name id) more ≡ None

pub ids_join : (facts more : List Fact) → GiveNoIds more → JoinIds facts more
ids_join facts more silent = record {
  ids = λ name n. grind (arith, silent.ids name n);
  ids_once = λ name id. grind (arith, silent.places name id);
}

-- ---- groups

-- what has the same parts is the same
pub same_told : (t u : Told) → t.is_shown ≡ u.is_shown → t.asks ≡ u.asks → ((n : ℕ) → t.ids n ≡ u.ids n) → ((id : Id) → t.places id ≡ u.places id) → t ≡ u
same_told t u shown asks ids places = λ i. record { is_shown = shown i; asks = asks i; ids = λ n. ids n i; places = λ id. places id i }

-- nothing new is told of the groups of a list of facts
pub told_same : (facts more : List Fact) (name : Name) → IsUntold (told more name) → told (facts ++ more) name ≡ told facts name
told_same facts more name silent =
    same_told _ _ (any_silent (shows_group name) facts more silent.not_shown) (grind (arith, asks_append name facts more, append-nil, silent.no_asks))
    (λ n. given_silent (id_in name n) facts more (silent.no_ids n)) (λ id. given_silent (number_in name id) facts more (silent.no_places id))

-- of other groups is kept what was kept
pub kept_at : (t u : Name → Told) (groups : FinMap (slice_cmp nat_cmp) KeptGroup) (here : Name) (g : KeptGroup) → AreKept t groups
    → ((name : Name) → is_same here name ≡ false → u name ≡ t name) → IsKeptGroup (u here) g → AreKept u (insert groups here g)
kept_at t u groups here g kept others new name =
    grind (arith, get-insert nat_list_cmp_total groups here g name, flip_text name here, same_text here name, kept name, others name, new)

-- what is asked of one group alone stands together with what was asked, if all does
pub numbers_join : (facts more : List Fact) (here : Name) (asks : List Ask) → Together facts → asks_of here more ≡ asks → ((name : Name) → is_same here name ≡ false → asks_of name more ≡ [])
    → JoinNumbers facts more ↔ AsksStand (asks_of here facts ++ asks)
numbers_join facts more here asks t is others = (
  λ h. subst (λ asks. AsksStand (asks_of here facts ++ asks)) is (h here),
  λ h name. by name (is_same here name) refl h,
)
  where
    by : (name : Name) (b : Bool) → is_same here name ≡ b → AsksStand (asks_of here facts ++ asks) → AsksStand (asks_of name facts ++ asks_of name more)
    by name true e h = subst (λ name. AsksStand (asks_of name facts ++ asks_of name more)) (same_text here name (sym e)) (subst (λ asks. AsksStand (asks_of here facts ++ asks)) (sym is) h)
    by name false e h = subst AsksStand (sym (ap (λ asks. asks_of name facts ++ asks) (others name e) ∙ append-nil (asks_of name facts))) (t.numbers name)

-- nothing is asked
pub no_numbers_join : (facts more : List Fact) → Together facts → ((name : Name) → asks_of name more ≡ []) → JoinNumbers facts more
no_numbers_join facts more t none name = subst AsksStand (sym (ap (λ asks. asks_of name facts ++ asks) (none name) ∙ append-nil (asks_of name facts))) (t.numbers name)
