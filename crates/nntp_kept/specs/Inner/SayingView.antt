-- What the values of src/saying.rt mean.
use Rattle.std.specs.Prelude.{ℕ, List, Option, option_map}
use Rattle.nntp_wire.specs.{Listing.{ActiveValue, OverviewValue, active_groups, overviews_of}, declared.range.Range.{Range}}
use Rattle.nntp_article.specs.Article.Parts.{Id}
use Rattle.nntp_numbers.specs.Inner.PartView.{said}
use Rattle.nntp_kept.specs.declared.saying.{IdAt.{IdAt}, GroupPart.{GroupPart}, OverviewsPart.{OverviewsPart}, ActivePart.{ActivePart}, Saying.{Saying}}
use Rattle.nntp_kept_articles.specs.Inner.PartView.{article_said}
use Rattle.nntp_kept.specs.Inner.Saying as said_of

-- the id at a number
abbrev pub id_at : Option IdAt → Option (ℕ × Id)
id_at id = option_map (λ e. (e.number, e.id.now)) id

-- what is said of a group
abbrev pub of_group : GroupPart → said_of.OfGroup
of_group g = record { name = g.name.now; numbers = said g.numbers; id = id_at g.id }

-- the overviews of a range
abbrev pub overviews_said : OverviewsPart → Range × List OverviewValue
overviews_said l = (l.range, overviews_of l.block.now)

-- the groups that match
abbrev pub active_said : ActivePart → Option (List ℕ) × List ActiveValue
active_said l = (l.wildmat.now, active_groups l.block.now)

-- all that is said
abbrev pub saying_of : Saying → said_of.Saying
saying_of s = record {
  there_is = option_map (λ name. name.now) s.there_is;
  there_is_no = option_map (λ name. name.now) s.there_is_no;
  group = option_map of_group s.group;
  article = option_map article_said s.article;
  overviews = option_map overviews_said s.overviews;
  groups = option_map active_said s.groups;
}
