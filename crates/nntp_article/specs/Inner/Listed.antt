-- What an answer lists, and what the values of src/session/listed.rt mean.
use Rattle.std.specs.Prelude.{ℕ, List, [], map}
use Rattle.nntp_wire.specs.{Answer.{Response}, Listing.{ActiveValue, OverviewValue}, Inner.View.{active_value}}
use Rattle.nntp_article.specs.{Session.Machine.{overview_numbers}, Inner.Misfit.{numbers_of, groups_of, overviews_in}, declared.session.listed.Listed.{Listed}}
use Rattle.nntp_article.specs.declared.session.listed.Listed.TheVariants.{Nothing, Numbers, Groups, Overviews}

-- what may be listed: numbers, by themselves or with overviews, groups and overviews (sections 6.1.2, 7.6.3 and 8.3)
pub record Lists : Type 0 where
  pub numbers : List ℕ
  pub groups : List ActiveValue
  pub overviews : List OverviewValue

-- what the answer lists
abbrev pub lists_of : Response → Lists
lists_of response = record { numbers = numbers_of response; groups = groups_of response; overviews = overviews_in response }

-- what is listed, without where it lies in memory
abbrev pub lists : {A : Type 0} → Listed A → Lists
lists Nothing = record { numbers = []; groups = []; overviews = [] }
lists (Numbers numbers) = record { numbers = numbers.items; groups = []; overviews = [] }
lists (Groups groups) = record { numbers = []; groups = map active_value groups.items; overviews = [] }
lists (Overviews overviews) = record { numbers = overview_numbers overviews; groups = []; overviews = overviews }
