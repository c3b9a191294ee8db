-- When the overviews of a range join what was said (RFC 3977, section 8.3).
use Rattle.std.specs.{Prelude.{ℕ, IsTrue, IsFalse, List, Option, Some}, List.{list_any}}
use Rattle.nntp_wire.specs.Listing.{OverviewValue}
use Rattle.nntp_article.specs.{Article.Parts.{Id}, Session.{Spool.{Name}, Machine.{is_ascending, all_differ, overview_numbers, overview_ids}}}
use Rattle.nntp_said.specs.Facts.{Fact}
use Rattle.nntp_theory.specs.{Given.{first_given, id_of_overview, fields_in}, Together.{number_of_overview, denies_article}, Inner.Together.{AreSame}}
use Rattle.nntp_kept.specs.Inner.Kept.{told, MayShow}

-- each has a number and an id of its own
pub record HaveOwn (overviews : List OverviewValue) : Type 0 where
  pub numbers : IsTrue (is_ascending (overview_numbers overviews))
  pub ids : IsTrue (all_differ (overview_ids overviews))

-- the id of the first overview at the number
abbrev pub id_listed : List OverviewValue → ℕ → Option Id
id_listed overviews n = first_given (id_of_overview n) overviews

-- the number of the first one with the id
abbrev pub place_listed : List OverviewValue → Id → Option ℕ
place_listed overviews id = first_given (number_of_overview id) overviews

-- an overview of the group joins: its number may have its id, which isn't denied, and of whose article nothing else was told
pub record OverviewJoins (facts : List Fact) (name : Name) (o : OverviewValue) : Type 0 where
  pub id : MayShow (told facts name) (Some (o.number, o.id))
  pub free : IsFalse (list_any (denies_article o.id) facts)
  pub fields : AreSame o.told (first_given (fields_in o.id) facts)
