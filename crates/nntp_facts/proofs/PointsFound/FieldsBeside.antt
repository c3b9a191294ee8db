-- Points that are about headers, where what an answer tells of them conflicts with what is kept.
use Rattle.nntp_facts.proofs.Base.{◌≡◌, true, false, IsTrue, List, [], ◌∷◌, ◌++◌, Option, None, Some, MatchOption, refl, sym, ap, subst, ◌∙◌, arith, true≢false}
use Rattle.nntp_facts.proofs.Base.{IfSome, option_map, is_some, AllByRecursion, option_map_or, get, OverviewValue, Fields, What, Range, Id, Line, words_in}
use Rattle.nntp_facts.proofs.Base.{Field, Profile, only, Fact, first_given, fields_in, fields_of_overview, SaidOfArticle, AreSame, In, all_at, all_from}
use Rattle.nntp_facts.proofs.Base.{told_by, Kept, said_kept, head_sent, OfArticle, Sends, Describes, MayBeOf, said_listed, kept_by, fields_of_head, head_fits}
use Rattle.nntp_facts.proofs.Base.{GiveOne, Point, ConflictAt, words_told, if_some, part_first, of_rank, give_same_of_both, IsPointOf}
use Rattle.nntp_facts.proofs.PointsFound.{Statements.{article_told}, KindsOfPoints.{one_given}, ArticlesBeside.{own, others, said, said_plain}}
use Rattle.nntp_facts.specs.Inner.Points.{IsBeside, IsFieldOf, IsFieldAmong, IsOtherField, OneTellsOther, Statement}
use Rattle.nntp_kept.{specs.Inner.KeptSaying.{said_by}, proofs.Keeping.{OverviewsTold.{of_range}, ListedOverviews.{own_agree}}}
use Rattle.nntp_kept_articles.specs.Inner.ArticleSaid.{said_in}

-- ---- of one header what is given of all

-- where the same is told of all headers, so it is of each
words_once : (id : Id) (field : Field) (facts : List Fact) → GiveOne (fields_in id) facts → GiveOne (words_told id field) facts
words_once id field facts one = all_from _ facts (λ fact i.
    let here = all_at (λ fact. IfSome (fields_in id fact) (λ fields. first_given (fields_in id) facts ≡ Some fields)) fact facts one i in
    grind (arith, here, part_first (λ fields. words_in fields field) (fields_in id) facts))

-- ---- one answer beside the others

module _ (profile : Profile) (facts : List Fact) (k : Kept) (t : Statement) (more : List Fact) (h : IsBeside profile facts k t more) where
  abbrev all : List Fact
  all = facts ++ more

  abbrev Free : Point → Type 0
  Free point = ConflictAt all point → ⊥

  -- what is told of the id before
  abbrev before : Id → Option Fields
  before id = first_given (fields_in id) facts

  given : (id : Id) → first_given (fields_in id) more ≡ (said_by t.saying id).fields
  given id = ap (λ (s : SaidOfArticle). s.fields) (article_told profile t more h.tells id)

  kept_is : (id : Id) → (said_kept (get k.articles id)).fields ≡ before id
  kept_is id = sym (ap (λ (s : SaidOfArticle). s.fields) (h.kept.articles id))

  -- where nothing else was told than is, they conflict nowhere
  pub fields_free : ((id : Id) → AreSame (said_by t.saying id).fields (before id)) → IsPointOf all 10 None
  fields_free same = of_rank Free 10 (λ id field c. c (words_once id field all (one_given profile facts k t more h (fields_in id) (λ name. refl) (λ name ask. refl) (h.together.fields id)
      (h.tells.agree.fields id) (subst (λ o. AreSame o (before id)) (sym (given id)) (same id)))))

  -- where it was, they do
  other_point : (id : Id) (point : Point) → IsOtherField k id (said_by t.saying id).fields point → IsPointOf all 10 (Some point)
  other_point id point (field, is, other) =
      grind (arith, give_same_of_both (words_told id field) facts more, part_first (λ fields. words_in fields field) (fields_in id), given id, kept_is id)

  -- ---- of overviews

  module _ (o : Range × List OverviewValue) (listed : t.saying.overviews ≡ Some o) where
    -- what they tell of an id is what one of them tells
    told_alike : AllByRecursion (λ v. AreSame v.told (said_kept (get k.articles v.id)).fields) o.1 → (id : Id) → AreSame (said_listed o.1 id).fields (before id)
    told_alike same id = if_some (first_given (fields_of_overview id) o.1) _ (λ fields e.
        let f = told_by o.1 id fields e in
        grind (arith, kept_is f.overview.id, all_at (λ v. AreSame v.told (said_kept (get k.articles v.id)).fields) f.overview o.1 same f.there))

    -- and where one tells otherwise, they do
    own_told : (v : OverviewValue) (point : Point) → In v o.1 → IsOtherField k v.id v.told point → IsOtherField k v.id (first_given (fields_of_overview v.id) o.1) point
    own_told v point i is =
        let own = (all_at _ v o.1 (own_agree [] o.0 o.1 (of_range h.tells.before t.saying h.tells.tells.asks h.tells.tells.may o listed).own) i).2 in
        grind (arith, own)

    pub listed_field : (p : Option Point) → IsFieldAmong k o.1 p → IsPointOf all 10 p
    listed_field None same = fields_free (λ id. subst (λ (s : SaidOfArticle). AreSame s.fields (before id)) (sym (said profile facts k t more h o listed id)) (told_alike same id))
    listed_field (Some point) other =
        let f = one_found point o.1 other in
        let same = ap (λ (s : SaidOfArticle). s.fields) (said profile facts k t more h o listed f.0.id) in
        other_point f.0.id point (subst (λ told. IsOtherField k f.0.id told point) (sym same) (own_told f.0 point f.1 f.2))
      where
        one_found : (point : Point) (os : List OverviewValue) → OneTellsOther k point os → (v : OverviewValue) × In v os × IsOtherField k v.id v.told point
        one_found point [] h = absurd h
        one_found point (v ∷ os) h = grind (arith, one_found point os)

  -- ---- of an article

  -- where nothing is said of any
  pub no_field : t.saying.overviews ≡ None → t.saying.article ≡ None → IsPointOf all 10 None
  no_field plain none = fields_free (λ id. subst (λ (s : SaidOfArticle). AreSame s.fields (before id)) (sym (said_plain profile facts k t more h id plain ∙ ap (λ a. said_in a id) none)) tt)

  -- where this is told of one
  module _ (id : Id) (a : OfArticle) (e : t.saying.article ≡ Some (id, a)) (told : Option Fields) (is : told ≡ (said_kept (Some (kept_by a))).fields) where
    own_fields : (said_by t.saying id).fields ≡ told
    own_fields = ap (λ (s : SaidOfArticle). s.fields) (own profile facts k t more h id a e) ∙ sym is

    pub field_point : (p : Option Point) → IsFieldOf k id told p → IsPointOf all 10 p
    field_point None same = fields_free (λ q. grind (arith, others profile facts k t more h id a e q, own_fields, kept_is id))
    field_point (Some point) other = other_point id point (subst (λ told. IsOtherField k id told point) (sym own_fields) other)

  -- of a head that is sent
  pub head_point : (id : Id) (what : What) (lines : Option (List Line)) → t.saying.article ≡ Some (id, Sends what lines) → (head : Option (List Line))
      → (IsTrue (head_fits what id lines) → head ≡ head_sent what lines) → (p : Option Point) → IsFieldOf k id (option_map fields_of_head head) p → IsPointOf all 10 p
  head_point id what lines e head is =
      field_point id (Sends what lines) e (option_map fields_of_head head)
      (ap (option_map fields_of_head) (is (subst (λ o. IfSome o (MayBeOf t.saying.group)) e h.tells.tells.may.article)))

  -- of an overview that was asked for alone
  pub overview_point : (id : Id) (os : List OverviewValue) → t.saying.article ≡ Some (id, Describes os) → (p : Option Point) → IsFieldAmong k os p → IsPointOf all 10 p
  overview_point id os e p among =
      field_point id (Describes os) e (option_map_or (λ o. o.told) (only os) None) refl p
      (let one : MatchOption (only os) ⊥ (λ o. o.id ≡ id) = subst (λ o. IfSome o (MayBeOf t.saying.group)) e h.tells.tells.may.article in grind (arith, one))

-- ---- one overview after the other

module _ (k : Kept) (o : OverviewValue) (os : List OverviewValue) where
  -- where nothing else is kept than the first tells, the point is that of another
  pub past_found : {X : Type 0} (of : X → Point) (found : Option X) → is_some found ≡ false → IsFieldOf k o.id o.told (option_map of found) → (p : Option Point) → IsFieldAmong k os p
      → IsFieldAmong k (o ∷ os) p
  past_found of found none same p others = grind (arith, true≢false)

  -- else it is its own
  pub at_found : {X : Type 0} (of : X → Point) (found : Option X) → is_some found ≡ true → IsFieldOf k o.id o.told (option_map of found) → IsFieldAmong k (o ∷ os) (option_map of found)
  at_found of found some other = grind (arith, true≢false)
