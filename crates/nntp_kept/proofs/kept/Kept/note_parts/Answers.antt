use Rattle.nntp_kept.proofs.Base.{◌++◌, refl, sym, subst, ◌∙◌, IfSome, is_added, saying_of, AreKeptNames, AreKeptGroups, facts_in, IsTextOf, IsArticleAdded}
use Rattle.nntp_kept.proofs.{Base.{true≢false, join_said, said_of, IsKept, ap, true}, Keeping.NotedParts.{kept_is, may_be_said, texts_of, joins, parts_tell}}
use Rattle.nntp_kept.proofs.Keeping.{FactsOfParts.{denied_group}, PartsJoin.{said_of_parts}}
use Rattle.nntp_kept_articles.proofs.SaidOfArticles.{said_append}
use Rattle.nntp_kept.proofs.kept.Kept.note_parts.Goals as goal

pub returns-then-not-at_all : goal.returns-then-not-at_all
returns-then-not-at_all g c no_list plain facts more kept together formed t =
    let all = joins facts more (saying_of c.args.saying.now) no_list plain t together formed in
    (λ j. true≢false (sym ((c.groups_join-joins.ensures.at_all facts t.asks kept together t.may).1 (all.0 j).0) ∙ sym c.at_all.ensures ∙ c.if-not-at_all.true), refl)

pub returns-then-not-at_all-2 : goal.returns-then-not-at_all-2
returns-then-not-at_all-2 g c no_list plain facts more kept together formed t =
    let s = saying_of c.args.saying.now in
    let article = c.in_ok-added.ensures.added facts kept.articles (may_be_said s.group s.article t.may.article)
    (λ again. c.groups_join-joins.ensures.there again facts t.asks kept t.may) in
    let refused = subst (IsArticleAdded facts s.article _ _) (sym c.at_all-2.ensures ∙ c.if-not-at_all-2.true) article in
    (λ j. refused.0 ((joins facts more s no_list plain t together formed).0 j).1, kept_is _ _ c.note_article.ensures.rest.0 c.note_article.ensures.rest.1 refused.1)

pub returns : goal.returns
returns g c no_list plain facts more kept together formed t =
    let s = saying_of c.args.saying.now in
    let all = facts ++ facts_in s t.asks in
    let calls = c.groups_join-joins.ensures in
    let test = calls.at_all facts t.asks kept together t.may in
    let passed = sym c.at_all.ensures ∙ c.if-not-at_all.false in
    let added = is_added c.in_ok-added.added in
    let does = sym c.at_all-2.ensures ∙ c.if-not-at_all-2.false in
    let alike = c.deny.ensures.rest.0 ∙ c.note_article.ensures.rest.0 in
    let article = c.in_ok-added.ensures.added facts kept.articles (may_be_said s.group s.article t.may.article) (λ again. calls.there again facts t.asks kept t.may) in
    let names = c.in_ok-deny.ensures.names facts (facts_in s t.asks) (subst (AreKeptNames facts) (sym c.note_article.ensures.rest.1) kept.names) (denied_group s t.asks no_list) in
    let groups = c.in_ok-add_new_group.ensures.groups facts s t.asks refl no_list together t.may (test.0 passed).group (subst (AreKeptGroups facts) (sym alike) kept.groups)
    (λ again. subst (AreKeptGroups all) (sym alike) (calls.again again facts t.asks no_list kept together t.may))
    (λ other. subst (λ text. IfSome s.group (λ g. IsTextOf text g.id)) (sym c.text.ensures)
    (texts_of _ s.article s.group (c.in_ok-added.ensures.text (may_be_said s.group s.article t.may.article) other does) t.may.placed)) in
    let noted = subst (λ articles. IsArticleAdded facts s.article c.args.self.now.articles articles true) (sym (c.add_new_group.ensures.rest.1 ∙ c.deny.ensures.rest.1))
    (subst (IsArticleAdded facts s.article _ _) does article) in (
      (joins facts more s no_list plain t together formed).1 (test.0 passed, noted.0),
      subst (λ more. IsKept (facts ++ more) c.add_new_group.new.self) (parts_tell facts more s no_list plain t together formed) (record {
        groups = groups;
        names = subst (AreKeptNames all) (sym c.add_new_group.ensures.rest.0) names;
        articles = λ id. said_append facts (facts_in s t.asks) id ∙ ap (join_said (said_of facts id)) (said_of_parts facts s t.asks no_list t.may id) ∙ noted.1 id;
      }),
    )
