use Rattle.nntp_kept.proofs.Base.{◌≡◌, ℕ, true, false, [], Some, sym, ap, subst, ◌∙◌, true≢false, IsFalse, option_map, list_any, rc_str_bytes, overview_value}
use Rattle.nntp_kept.proofs.Base.{first_given, fields_in, denies_article, AreSame, on_ok, Id, telling, AreKept, AreKeptArticles, Agree, MayShow, IsSaidAdded}
use Rattle.nntp_kept.{proofs.{Base.{IsSaidKept, IsTextOf, said_alone, is_added, id_at}, Keeping.OverviewsJoin.{surely_added}}, specs.Inner.Kept.{AreKeptWith}}
use Rattle.nntp_kept.proofs.kept.Kept.give.Goals as goal

pub returns-clause-kept : goal.returns-clause-kept
returns-clause-kept g c =
    on_ok c.add.result (λ adds facts tells kept articles may.
    let name = c.args.name.now in
    let o = overview_value c.args.overview.now in
    let id = o.id in
    let is = c.as_str-id.ensures.value in
    let told = o.told in
    let part = c.of_id.result in
    let at : ℕ × Id = (o.number, id) in
    let same_name = c.of_id.ensures.name in
    let same_id = c.of_id.ensures.id ∙ ap (λ id. Some (o.number, id)) is in
    let known = subst (λ k. AreKeptArticles facts k.articles) (sym c.self.view_is) articles in
    let noted = surely_added facts c.as_str-id.result.now told c.self.inside.articles c.tell.new.self _ known
    (subst (λ id. IsFalse (list_any (denies_article id) facts)) (sym is) may.free) (subst (λ id. AreSame told (first_given (fields_in id) facts)) (sym is) may.fields)
    (subst (λ told. IsSaidAdded facts (said_alone c.as_str-id.result.now (telling false told)) c.self.inside.articles c.tell.new.self (is_added c.in_ok-added.added))
    c.of_overview.ensures (c.in_ok-added.ensures.added facts known)) in
    let text = c.in_ok-added.ensures.text noted.0 in (
      subst (λ name. AreKeptWith tells name [] (Some at) c.add.new.self) same_name (subst (λ id. AreKeptWith tells part.name.now [] id c.add.new.self) same_id
          (adds tells [] (subst (IsTextOf (option_map (λ text. rc_str_bytes text) c.text.result)) (sym same_id) (c.text.ensures ∙ text ∙ ap (λ id. Some id) is))
          (subst (λ k. AreKept tells k.groups) (sym c.self.view_is) kept) c.of_id.ensures.numbers
          (λ none. absurd (true≢false (sym (subst (λ name. (tells name).is_shown ≡ true) (sym same_name) may.shown) ∙ none)))
          (subst (λ name. Agree (tells name).ids (tells name).places (id_at part.id)) (sym same_name) (subst (Agree (tells name).ids (tells name).places) (sym same_id) may.agree))
          (subst (λ name. MayShow (tells name) (id_at part.id)) (sym same_name) (subst (MayShow (tells name)) (sym same_id) may.may)))),
      subst (λ id. IsSaidKept facts (said_alone id (telling false told)) c.tell.new.self) is noted.1,
    )) c.add.ensures
