-- What is kept of groups, once more is told of one.
use Rattle.nntp_kept.proofs.Base.{◌≡◌, ℕ, Bool, true, List, ◌++◌, Option, None, Some, is_some, MatchOption, refl, sym, ap, subst, ◌∙◌, arith, true≢false}
use Rattle.nntp_kept.proofs.Base.{eqb-true, or_left, list_any-append, option_or, FinMap, get, insert, get-insert, get-empty, slice_cmp-IsAntisymmetric}
use Rattle.nntp_kept.proofs.Base.{nat_cmp-IsAntisymmetric, nat_cmp, nat_cmp_total, slice_cmp, same_text, nat_list_cmp_total, ◌↔◌, list_any, insert-same, Id}
use Rattle.nntp_kept.proofs.Base.{Name, Ask, IsSummary, AreBounded, or_none, KeptGroup, Told, IsUntold, AreKept, with_part, Changes, Agree, MayHave, MayShow}
use Rattle.nntp_kept.proofs.{Base.{ids_with, places_with, id_of, place_of, option_map_or, false, empty, IfSome, denies}, Keeping.FactsOfOneGroup.{flip_number}}
use Rattle.nntp_kept.{proofs.Keeping.FactsOfOneGroup.{kept_at}, specs.Inner.Kept.{IsKeptGroup}}
use Rattle.nntp_kept_articles.proofs.TextKeys.{flip_text}

abbrev pub Groups : Type 0
Groups = FinMap (slice_cmp nat_cmp) KeptGroup

-- what is kept of a group, or nothing
pub kept_of : (tells : Name → Told) (groups : Groups) (name : Name) (o : Option KeptGroup) → get groups name ≡ o
    → AreKept tells groups → MatchOption o (IsUntold (tells name)) (IsKeptGroup (tells name))
kept_of tells groups name o is kept = subst (λ o. MatchOption o (IsUntold (tells name)) (IsKeptGroup (tells name))) is (kept name)

-- a group that is shown is kept
pub shown_kept : (tells : Name → Told) (groups : Groups) (name : Name) → AreKept tells groups → is_some (get groups name) ≡ (tells name).is_shown
shown_kept tells groups name kept = grind arith

-- no number from 2^64 on is left open by more
pub bounded_more : (asks more : List Ask) → AreBounded asks → AreBounded (asks ++ more)
bounded_more asks more bounded n large = list_any-append (λ ask. denies ask n) asks more ∙ or_left (list_any (λ ask. denies ask n) asks) _ (bounded n large)

-- the ids at numbers then, and the numbers of ids
ids_grown : (t : Told) (ids : FinMap nat_cmp Id) (places : FinMap (slice_cmp nat_cmp) ℕ) (id : Option (ℕ × Id))
    → ((n : ℕ) → get ids n ≡ t.ids n) → ((i : Id) → get places i ≡ t.places i) → MayShow t id
    → ((n : ℕ) → get (ids_with ids id) n ≡ option_or (t.ids n) (id_of id n)) × ((i : Id) → get (places_with places id) i ≡ option_or (t.places i) (place_of id i))
ids_grown t ids places None had was free = (λ n. had n ∙ sym (or_none (t.ids n)), λ i. was i ∙ sym (or_none (t.places i)))
ids_grown t ids places (Some e) had was free =
    grind (arith, get-insert nat_cmp_total ids e.0 e.1, flip_number, had, eqb-true, get-insert nat_list_cmp_total places e.1 e.0, flip_text, was, same_text)

-- what was kept of the group, if anything was
was_kept : (t : Told) (o : Option KeptGroup) (asks : List Ask) → MatchOption o (IsUntold t) (IsKeptGroup t) → (t.is_shown ≡ false → AreBounded asks)
    → AreBounded (t.asks ++ asks) × ((n : ℕ) → get (option_map_or (λ g. g.ids) o empty) n ≡ t.ids n) × ((i : Id) → get (option_map_or (λ g. g.places) o empty) i ≡ t.places i)
was_kept t o asks was bounded = grind (arith, bounded_more, get-empty)

-- more is said of a group, whether it was kept or not
pub part_kept : (before after : Name → Told) (groups : Groups) (name : Name) (o : Option KeptGroup) (h : KeptGroup) (asks : List Ask) (id : Option (ℕ × Id)) → AreKept before groups
    → get groups name ≡ o → ((before name).is_shown ≡ false → AreBounded asks) → MayShow (before name) id → Changes before after name (with_part (before name) asks id)
    → IsSummary h.numbers ((before name).asks ++ asks) → h.ids ≡ ids_with (option_map_or (λ g. g.ids) o empty) id → h.places ≡ places_with (option_map_or (λ g. g.places) o empty) id
    → AreKept after (insert groups name h)
part_kept before after groups name o h asks id kept is bounded free changes sum ids places =
    let was = was_kept (before name) o asks (kept_of before groups name o is kept) bounded in
    let grows = ids_grown (before name) _ _ id was.1 was.2 free in
    kept_at before after groups name h kept changes.elsewhere (subst (λ t. IsKeptGroup t h) (sym changes.here) (record {
      shown = refl;
      bounded = was.0;
      numbers = sum;
      ids = λ n. ap (λ m. get m n) ids ∙ grows.0 n;
      places = λ i. ap (λ m. get m i) places ∙ grows.1 i;
    }))

-- nothing has an id that may not have this one
pub empty_may_have : (id : Option (ℕ × Id)) → MayHave empty empty id
empty_may_have id = grind (arith, get-empty)

-- where nothing is, nothing disagrees
pub empty_agree : (g : KeptGroup) (id : Option (ℕ × Id)) → g.ids ≡ empty → Agree (get g.ids) (get g.places) id
empty_agree g id no_ids = grind (arith, get-empty)

-- an id that is at its number already is put there again
pub same_id : (g : KeptGroup) (n : ℕ) (id : Id) (there : Bool) → is_some (get g.ids n) ≡ there → there ≡ true → IfSome (get g.ids n) (λ other. id ≡ other)
    → (get g.ids n ≡ Some id → get g.places id ≡ Some n) → (g.ids ≡ insert g.ids n id) × (g.places ≡ insert g.places id n)
same_id g n id there is known free each = grind (arith, true≢false, insert-same, nat_cmp_total, nat_cmp-IsAntisymmetric, nat_list_cmp_total, slice_cmp-IsAntisymmetric)

-- what is kept agrees where what is told does
pub agree_kept : (t : Told) (g : KeptGroup) (id : Option (ℕ × Id)) → IsKeptGroup t g → Agree t.ids t.places id → Agree (get g.ids) (get g.places) id
agree_kept t g id was each = grind arith

-- what is kept may have the id exactly if what is told may
pub may_have_told : (t : Told) (g : KeptGroup) (id : Option (ℕ × Id)) → ((n : ℕ) → get g.ids n ≡ t.ids n) → ((i : Id) → get g.places i ≡ t.places i) → MayHave g.ids g.places id ↔ MayShow t id
may_have_told t g id ids places = grind arith
