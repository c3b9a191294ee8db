-- What a point means that code gives.
use Rattle.nntp_facts.specs.declared.point.Point.{Point, TheVariants.{Step, Group, Number, Count, First, IdOf, PlaceOf, Article, HeadOf, BodyOf, FieldOf}}
use Rattle.nntp_theory.specs.Conflict as points

-- the point, without where its octets lie in memory
abbrev pub point_of : Point → points.Point
point_of (Step name) = points.Step name.now
point_of (Group name) = points.Group name
point_of (Number name number) = points.Number name.now number
point_of (Count name) = points.Count name.now
point_of (First name) = points.First name.now
point_of (IdOf name number) = points.IdOf name.now number
point_of (PlaceOf name id) = points.PlaceOf name.now id.now
point_of (Article id) = points.Article id.now
point_of (HeadOf id) = points.HeadOf id.now
point_of (BodyOf id) = points.BodyOf id.now
point_of (FieldOf id field) = points.FieldOf id.now field
