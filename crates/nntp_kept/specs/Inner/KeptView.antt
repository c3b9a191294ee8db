-- The codes of what is kept of all that was said.
use Rattle.std.specs.{Prelude.{refl}, Coded.{Coded, code_by, coded×, coded_ℕ, coded_list, coded_option}}
use Rattle.nntp_kept.specs.Inner.{Kept.{KeptNames, Kept}, GroupView.{coded_groups}}
use Rattle.nntp_kept_articles.specs.Inner.ArticleView.{coded_kept}
use Rattle.std.specs.FinMap as map

abbrev pub coded_names : Coded KeptNames
coded_names =
    code_by _ (coded× (coded_list (coded_list coded_ℕ)) (coded× (coded_list (coded× (coded_list coded_ℕ) coded_ℕ)) (coded_option coded_ℕ)))
    (λ k. (k.denied, (k.wildmats, k.all_listed)))
    (λ p. record { denied = p.0; wildmats = p.1.0; all_listed = p.1.1 }) (λ _. refl)

abbrev pub coded_whole : Coded Kept
coded_whole =
    code_by _ (coded× coded_groups (coded× coded_names (map.code (coded_list coded_ℕ) coded_kept)))
    (λ k. (k.groups, (k.names, k.articles)))
    (λ p. record { groups = p.0; names = p.1.0; articles = p.1.1 }) (λ _. refl)
