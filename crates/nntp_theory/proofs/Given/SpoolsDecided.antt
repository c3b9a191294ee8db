-- Whether two maps are a spool can be decided.
use Rattle.std.proofs.{Common.{arith, ◌≡◌, ℕ, ◌≤◌, IsTrue, ◌++◌, Option, None, Some, is_some, IsSome, inl, refl, sym, ap, subst, ◌∙◌}, lemmas.Bool.{cases_eq}}
use Rattle.std.{proofs.lemmas.List.Elements.{recursion_from_All, All-from_recursion}, specs.{declared.cmp.Ordering.{Ordering}, List.{AllByRecursion}}}
use Rattle.std.specs.{Cmp.{IsTotalOrder, nat_cmp_total, Lexicographic.{nat_list_cmp_total}}, FinMap.{FinMap, get, entries, IsAntisymmetric}}
use Rattle.std.specs.FinMap.{nat_cmp-IsAntisymmetric}
use Rattle.nntp_said.proofs.FiniteMapsDecided.{Dec, dec_true, dec_le, dec_both, dec_three, dec_by, dec_to, dec_texts, dec_all}
use Rattle.nntp_article.specs.{Article.Parts.{is_head, said_id, Id}, Session.Spool.{Spool, Text, Numbers, numbers, IsSpool, Name, is_line}}
use Rattle.nntp_theory.proofs.{Members.{dec_each_in}, Given.{GivenHolds.{group_of_number}, ConstructedSpool.{names_apart}}, Maps.{get_in, in_get}}
use Rattle.nntp_wire.{specs.{Decided.{is_group_name, is_message_id}, Name.{IsMessageId, IsGroupName}}, proofs.DecidedLemmas.{message_id-iff, group_name-iff}}
use Rattle.nntp_wire.proofs.OptionLemmas.{some_is}

-- what can be decided of each entry of a map
dec_entries : {K X : Type 0} {R : K → K → Ordering} (o : IsTotalOrder R) (same : IsAntisymmetric R) (P : K → X → Type 0)
    → ((k : K) (x : X) → Dec (P k x)) → (m : FinMap R X) → Dec ((k : K) (x : X) → get m k ≡ Some x → P k x)
dec_entries o same P d m =
    dec_by (λ h k x e. h (k, x) (get_in o same m k x e)) (λ h e i. h e.0 e.1 (in_get o same m e.0 e.1 i))
    (dec_each_in (λ e. P e.0 e.1) (λ e. d e.0 e.1) (entries m))

-- what can be decided of each number of a group
dec_numbers : (P : ℕ → Id → Type 0) → ((n : ℕ) (id : Id) → Dec (P n id)) → (N : Numbers) → Dec ((n : ℕ) (id : Id) → get N n ≡ Some id → P n id)
dec_numbers P d N = dec_entries nat_cmp_total nat_cmp-IsAntisymmetric P d N

-- a group of a spool: its name is one and its numbers are within the limit, an id has one number, and each id has an article
abbrev GoodGroup : ℕ → Spool → Name → Numbers → Type 0
GoodGroup limit S name N = (IsGroupName name × ((n : ℕ) (id : Id) → get N n ≡ Some id → (1 ≤ n) × (n ≤ limit)))
    × ((n : ℕ) (id : Id) → get N n ≡ Some id → (m : ℕ) (other : Id) → get N m ≡ Some other → id ≡ other → n ≡ m)
    × ((n : ℕ) (id : Id) → get N n ≡ Some id → IsSome (get S.articles id))

-- an article of a spool
abbrev GoodText : Id → Text → Type 0
GoodText id t = IsMessageId id × (IsTrue (is_head t.head) × AllByRecursion (λ line. IsTrue (is_line line)) (t.head ++ t.body)) × ((said : Id) → said_id t.head ≡ Some said → said ≡ id)

-- whether an id that is said is the own one
dec_own : (id : Id) (o : Option Id) → Dec ((said : Id) → o ≡ Some said → said ≡ id)
dec_own id None = inl (λ said e. cc)
dec_own id (Some x) = dec_by (λ h said e. let s : x ≡ said = cc in sym s ∙ h) (λ h. h x refl) (dec_texts x id)

-- whether a group is good
dec_group : (limit : ℕ) (S : Spool) (name : Name) (N : Numbers) → Dec (GoodGroup limit S name N)
dec_group limit S name N =
    dec_three
    (dec_both (dec_by (group_name-iff name).0 (group_name-iff name).1 (dec_true (is_group_name name))) (dec_numbers (λ n id. (1 ≤ n) × (n ≤ limit)) (λ n id. dec_both (dec_le 1 n) (dec_le n limit)) N))
    (dec_numbers _ (λ n id. dec_numbers (λ m other. id ≡ other → n ≡ m) (λ m other. dec_to (dec_texts id other) (cases_eq n m)) N) N)
    (dec_numbers (λ n id. IsSome (get S.articles id)) (λ n id. dec_true (is_some (get S.articles id))) N)

-- whether an article is good
dec_text : (id : Id) (t : Text) → Dec (GoodText id t)
dec_text id t =
    let lines = dec_all (λ line. IsTrue (is_line line)) (λ line. dec_true (is_line line)) (t.head ++ t.body) in
    dec_three (dec_by (message_id-iff id).0 (message_id-iff id).1 (dec_true (is_message_id id))) (dec_both (dec_true (is_head t.head)) lines) (dec_own id (said_id t.head))

module _ (limit : ℕ) (S : Spool) where
  -- good groups and articles are a spool
  good : ((name : Name) (N : Numbers) → get S.groups name ≡ Some N → GoodGroup limit S name N) → ((id : Id) (t : Text) → get S.articles id ≡ Some t → GoodText id t) → IsSpool limit S
  good g a = record {
    names = λ name i. grind (arith, some_is (get S.groups name) i, g name);
    numbers_in_limit = λ name n i. (let N = group_of_number S name n i in let at = some_is (get (numbers S name) n) i in (g name N.0 N.1).0.1 n at.0 (subst (λ N. get N n ≡ Some at.0) N.2 at.1));
    one_to_one = λ name n m id e f. grind (arith, group_of_number S name n (ap is_some e), g name);
    ids_have_articles = λ name n id e. grind (arith, group_of_number S name n (ap is_some e), g name);
    ids = λ id i. (let t = some_is (get S.articles id) i in (a id t.0 t.1).0);
    heads = λ id t e. ((a id t e).1.0, All-from_recursion (λ line. IsTrue (is_line line)) (t.head ++ t.body) (a id t e).1.1);
    own_ids = λ id said t e. (a id t e).2 said;
  }

  -- and back
  bad : IsSpool limit S → ((name : Name) (N : Numbers) → get S.groups name ≡ Some N → GoodGroup limit S name N) × ((id : Id) (t : Text) → get S.articles id ≡ Some t → GoodText id t)
  bad s = (
    λ name N e. grind (arith, s.names name, s.numbers_in_limit name, s.one_to_one name, s.ids_have_articles name),
    λ id t e. grind (arith, s.ids id, s.heads id t e, recursion_from_All, s.own_ids id),
  )

  -- whether groups and articles are a spool
  pub dec_spool : Dec (IsSpool limit S)
  dec_spool =
      dec_by (λ h. good h.0 h.1) bad
      (dec_both (dec_entries nat_list_cmp_total names_apart (GoodGroup limit S) (dec_group limit S) S.groups) (dec_entries nat_list_cmp_total names_apart GoodText dec_text S.articles))
