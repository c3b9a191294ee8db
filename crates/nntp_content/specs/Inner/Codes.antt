-- The codes of the values that spools show.
use Rattle.std.specs.{Prelude.{ℕ, List, refl}, Coded.{Coded, code_by, coded×, coded_ℕ, coded_list}}
use Rattle.nntp_article.specs.Session.Spool.{Spool, Text}
use Rattle.std.specs.FinMap as map

abbrev pub coded_text : Coded Text
coded_text = code_by (List (List ℕ) × List (List ℕ)) (coded× (coded_list (coded_list coded_ℕ)) (coded_list (coded_list coded_ℕ)))
    (λ t. (t.head, t.body)) (λ p. record { head = p.0; body = p.1 }) (λ _. refl)

abbrev pub coded_spool : Coded Spool
coded_spool =
    let groups = map.code (coded_list coded_ℕ) (map.code coded_ℕ (coded_list coded_ℕ)) in
    let articles = map.code (coded_list coded_ℕ) coded_text in
    code_by _ (coded× groups articles) (λ s. (s.groups, s.articles)) (λ p. record { groups = p.0; articles = p.1 }) (λ _. refl)
