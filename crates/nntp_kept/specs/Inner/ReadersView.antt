-- What the code's readers show.
use Rattle.std.specs.{Prelude.{ℕ, List, Vec, Option, option_map, map}, Rc.{rc_str_bytes}}
use Rattle.nntp_article.specs.{Article.Parts.{Id}, Inner.ShownMap.{shown_entry}, Session.Spool.{Name}}
use Rattle.nntp_kept.specs.{Inner.Kept.{KeptGroup}, declared.shown_numbers.ShownNumber.{ShownNumber}}

-- the number, and its id
abbrev pub number_value : {A : Type 0} → ShownNumber A → ℕ × Option Id
number_value n = (n.number, option_map (λ id. rc_str_bytes id.now) n.id)

-- groups by their names, one after the other
abbrev pub named : {A : Type 0} → List (Vec ℕ A × KeptGroup) → List (Name × KeptGroup)
named entries = map (shown_entry (λ name. name.items) (λ (g : KeptGroup). g)) entries
