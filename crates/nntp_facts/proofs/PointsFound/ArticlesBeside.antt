-- Points that are about articles, where what an answer says conflicts with what is kept.
use Rattle.nntp_facts.proofs.Base.{ℕ, true, false, not, cond, IsTrue, List, ◌≡◌, ◌++◌, ◌||◌, Option, None, Some, refl, sym, ap, subst, ◌∙◌, arith, true≢false}
use Rattle.nntp_facts.proofs.Base.{or_left, or_right, list_any-append, IfSome, IsFalse, MatchOption, list_any, option_map_or, same_text, get, OverviewValue}
use Rattle.nntp_facts.proofs.Base.{What, Range, Id, Line, is_same, Profile, Fact, first_given, head_in, body_in, shows_article, denies_article, SaidOfArticle}
use Rattle.nntp_facts.proofs.Base.{said_nothing, AreSame, In, any_in, found_in, first_found, same_itself, Kept, said_kept, OfArticle, Sends, MayBeOf, kept_by}
use Rattle.nntp_facts.proofs.Base.{said_listed, ◌⊎◌, cases_Bool, head_fits, Point, Article, HeadOf, BodyOf, ConflictAt, none_there, of_rank, apart_both}
use Rattle.nntp_facts.proofs.{Base.{give_same_of_both, IsPointOf}, PointsFound.{Statements.{article_told}, KindsOfPoints.{one_given}}}
use Rattle.nntp_facts.specs.Inner.Points.{Statement, IsBeside}
use Rattle.nntp_kept.{specs.Inner.KeptSaying.{said_by}, proofs.Keeping.OverviewsTold.{Overviews, plain_by_article}}
use Rattle.nntp_kept_articles.{specs.Inner.{ArticleSaid.{said_in}, Articles.{is_there}}, proofs.KeptArticles.{shown_kept, denied_kept}}

-- ---- the parts of an article

-- its head, or its body
pub data Part : Type 0 where
  Head : Part
  Body : Part

-- the part in what is said of an id
abbrev pub part_of : Part → SaidOfArticle → Option (List Line)
part_of Head s = s.head
part_of Body s = s.body

abbrev pub part_in : Part → Id → Fact → Option (List Line)
part_in Head = head_in
part_in Body = body_in

-- the point that facts conflict about, where they send two
abbrev pub about : Part → Id → Point
about Head id = HeadOf id
about Body id = BodyOf id

abbrev pub part_rank : Part → ℕ
part_rank Head = 8
part_rank Body = 9

-- what a saying says of an id isn't both that it has an article and that it has none
said_apart : (o : Overviews) (a : Option (Id × OfArticle)) (id : Id) → IsTrue (option_map_or (λ o. said_listed o.1 id) o (said_in a id)).is_shown
    → IsFalse (option_map_or (λ o. said_listed o.1 id) o (said_in a id)).is_denied
said_apart o a id s = grind (arith, true≢false)

-- overviews show the articles of their ids
listed_shown : (id : Id) (os : List OverviewValue) → IsTrue (said_listed os id).is_shown → (v : OverviewValue) × In v os × (v.id ≡ id)
listed_shown id os s = grind (arith, found_in (λ (v : OverviewValue). is_same v.id id) os, same_text, true≢false)

-- overviews send no part, nor does what sends none
none_sent : (part : Part) (os : Overviews) (o : Option (Id × OfArticle)) → IfSome o (λ a. part_of part (said_kept (Some (kept_by a.1))) ≡ None) → (id : Id)
    → part_of part (option_map_or (λ l. said_listed l.1 id) os (said_in o id)) ≡ None
none_sent part os o none id = grind arith

-- ---- one answer beside the others

module _ (profile : Profile) (facts : List Fact) (k : Kept) (t : Statement) (more : List Fact) (h : IsBeside profile facts k t more) where
  abbrev all : List Fact
  all = facts ++ more

  -- they conflict at no point of the rank
  abbrev IsFree : ℕ → Type 0
  IsFree n = IsPointOf all n None

  abbrev Free : Point → Type 0
  Free point = ConflictAt all point → ⊥

  -- ---- whether an id has an article

  shown_told : (id : Id) → list_any (shows_article id) more ≡ (said_by t.saying id).is_shown
  shown_told id = ap (λ (s : SaidOfArticle). s.is_shown) (article_told profile t more h.tells id)

  denied_told : (id : Id) → list_any (denies_article id) more ≡ (said_by t.saying id).is_denied
  denied_told id = ap (λ (s : SaidOfArticle). s.is_denied) (article_told profile t more h.tells id)

  shown_in_all : (id : Id) → list_any (shows_article id) all ≡ (list_any (shows_article id) facts || (said_by t.saying id).is_shown)
  shown_in_all id = grind (arith, list_any-append, shown_told id)

  denied_in_all : (id : Id) → list_any (denies_article id) all ≡ (list_any (denies_article id) facts || (said_by t.saying id).is_denied)
  denied_in_all id = grind (arith, list_any-append, denied_told id)

  article_free : ((id : Id) → IsTrue (said_by t.saying id).is_shown → IsFalse (list_any (denies_article id) facts))
      → ((id : Id) → IsTrue (said_by t.saying id).is_denied → IsFalse (list_any (shows_article id) facts)) → IsFree 7
  article_free shown denied = of_rank Free 7 (λ id c.
      let both = apart_both (shows_article id) (denies_article id) facts more (h.together.articles id) in
      grind (arith, true≢false, both, said_apart t.saying.overviews t.saying.article id, shown_told id, denied_told id, shown id, denied id))

  -- where no overviews are said
  pub said_plain : (id : Id) → t.saying.overviews ≡ None → said_by t.saying id ≡ said_in t.saying.article id
  said_plain id plain = ap (λ (o : Overviews). option_map_or (λ o. said_listed o.1 id) o (said_in t.saying.article id)) plain

  pub no_article : t.saying.overviews ≡ None → t.saying.article ≡ None → IsFree 7
  no_article plain e = article_free (λ id s. grind (arith, said_plain id plain, true≢false)) (λ id d. grind (arith, said_plain id plain, true≢false))

  -- of overviews the first whose id is denied
  module _ (o : Range × List OverviewValue) (listed : t.saying.overviews ≡ Some o) where
    pub said : (id : Id) → said_by t.saying id ≡ said_listed o.1 id
    said id = ap (λ (o : Overviews). option_map_or (λ o. said_listed o.1 id) o (said_in t.saying.article id)) listed

    pub listed_article : (p : Option Point) → p ≡ first_given (λ v. cond (list_any (denies_article v.id) facts) (Some (Article v.id)) None) o.1 → IsPointOf all 7 p
    listed_article None found = article_free
        (λ id s. let f = listed_shown id o.1 (sym (ap (λ (s : SaidOfArticle). s.is_shown) (said id)) ∙ s) in
        let none = none_there (λ v. cond (list_any (denies_article v.id) facts) (Some (Article v.id)) None) o.1 f.0 f.1 (sym found) in
        subst (λ id. IsFalse (list_any (denies_article id) facts)) f.2 (grind arith))
        (λ id d. grind (arith, said id, true≢false))
    listed_article (Some point) found =
        let f = first_found (λ (v : OverviewValue). cond (list_any (denies_article v.id) facts) (Some (Article v.id)) None) o.1 point (sym found) in
        let shown : IsTrue (said_by t.saying f.0.id).is_shown = grind (arith, said f.0.id, any_in (λ (w : OverviewValue). is_same w.id f.0.id) f.0 o.1 f.1, same_itself f.0.id) in
        let d : (list_any (denies_article f.0.id) facts ≡ true) × (Article f.0.id ≡ point) = grind (arith, f.2) in
        subst (λ point. IsPointOf all 7 (Some point)) d.1 (grind (arith, shown_in_all f.0.id, denied_in_all f.0.id, shown, d, or_left, or_right))

  -- where something is said of an id
  module _ (id : Id) (a : OfArticle) (e : t.saying.article ≡ Some (id, a)) where
    plain : t.saying.overviews ≡ None
    plain = plain_by_article h.tells.before t.saying h.tells.tells.asks h.tells.tells.may (λ none some. let n : None ≡ Some (id, a) = sym none ∙ some in cc) e

    pub own : said_by t.saying id ≡ said_kept (Some (kept_by a))
    own = said_plain id plain ∙ ap (λ o. said_in o id) e ∙ ap (λ b. cond b (said_kept (Some (kept_by a))) said_nothing) (same_itself id)

    -- of others nothing is
    pub others : (q : Id) → (id ≡ q) ⊎ (said_by t.saying q ≡ said_nothing)
    others q = grind (arith, cases_Bool, same_text, said_plain q plain)

    own_free : (IsTrue (not (kept_by a).is_denied) → IsFalse (list_any (denies_article id) facts)) → (IsTrue (kept_by a).is_denied → IsFalse (list_any (shows_article id) facts)) → IsFree 7
    own_free shown denied = article_free (λ q s. grind (arith, others q, own, true≢false)) (λ q d. grind (arith, others q, own, true≢false))

    -- that it has no article
    pub lacks : (kept_by a).is_denied ≡ true → (o : Option Point) → o ≡ cond (is_there (get k.articles id)) (Some (Article id)) None → IsPointOf all 7 o
    lacks denied o is =
        subst (IsPointOf all 7) (sym is)
        (grind (arith, cases_Bool, shown_kept facts k.articles id h.kept.articles, shown_in_all id, or_left, denied_in_all id, or_right, own, own_free, true≢false))

    -- or that it has one
    pub has : (kept_by a).is_denied ≡ false → (o : Option Point) → o ≡ cond (option_map_or (λ a. a.is_denied) (get k.articles id) false) (Some (Article id)) None → IsPointOf all 7 o
    has free o is =
        subst (IsPointOf all 7) (sym is)
        (grind (arith, cases_Bool, denied_kept facts k.articles id h.kept.articles, shown_in_all id, or_right, own, denied_in_all id, or_left, own_free, true≢false))

  -- ---- heads and bodies

  part_given : (part : Part) (id : Id) → first_given (part_in part id) more ≡ part_of part (said_by t.saying id)
  part_given Head id = ap (λ (s : SaidOfArticle). s.head) (article_told profile t more h.tells id)
  part_given Body id = ap (λ (s : SaidOfArticle). s.body) (article_told profile t more h.tells id)

  -- what is sent was sent alike
  abbrev IsAlike : Part → Id → Option (List Line) → Type 0
  IsAlike part id sent = AreSame sent (first_given (part_in part id) facts)

  part_free : (part : Part) → ((id : Id) → IsAlike part id (part_of part (said_by t.saying id))) → IsFree (part_rank part)
  part_free Head same = of_rank Free 8 (λ id c. c (one_given profile facts k t more h (head_in id) (λ name. refl) (λ name ask. refl) (h.together.heads id) (h.tells.agree.heads id)
      (subst (IsAlike Head id) (sym (part_given Head id)) (same id))))
  part_free Body same = of_rank Free 9 (λ id c. c (one_given profile facts k t more h (body_in id) (λ name. refl) (λ name ask. refl) (h.together.bodies id) (h.tells.agree.bodies id)
      (subst (IsAlike Body id) (sym (part_given Body id)) (same id))))

  -- of an answer that sends no such part
  pub no_part : (part : Part) (o : Option (Id × OfArticle)) → t.saying.article ≡ o → IfSome o (λ a. part_of part (said_kept (Some (kept_by a.1))) ≡ None) → IsFree (part_rank part)
  no_part part o e none = part_free part (λ id. grind (arith, none_sent part t.saying.overviews o none id, e))

  -- of one that sends it, if it sends one
  module _ (part : Part) (id : Id) (what : What) (lines : Option (List Line)) (e : t.saying.article ≡ Some (id, Sends what lines)) (sent : Option (List Line))
      (is : IsTrue (head_fits what id lines) → sent ≡ part_of part (said_kept (Some (kept_by (Sends what lines))))) where
    said_part : part_of part (said_by t.saying id) ≡ sent
    said_part = ap (part_of part) (own id (Sends what lines) e) ∙ sym (is (subst (λ o. IfSome o (MayBeOf t.saying.group)) e h.tells.tells.may.article))

    same_part : IsAlike part id sent → IsFree (part_rank part)
    same_part same = part_free part (λ q. grind (arith, others id (Sends what lines) e q, said_part))

    other_part : (IsAlike part id sent → ⊥) → ConflictAt all (about part id)
    other_part other = grind (arith, part_given part id, said_part, give_same_of_both (part_in part id) facts more)

    pub part_point : (o : Option Point) → MatchOption o (IsAlike part id sent) (λ point. (point ≡ about part id) × (IsAlike part id sent → ⊥)) → IsPointOf all (part_rank part) o
    part_point o same = grind (arith, same_part, other_part)
