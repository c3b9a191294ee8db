-- What values of the reader show.
use Rattle.std.specs.{Prelude.{ℕ, Bool, List, [], Option, None, Some, Result, Ok}, Borrow.{Bor}}
use Rattle.nntp_store.specs.declared.text.place.{Place.{Place as PlaceInCode}, Opening.{Opening}, NumberLine.{NumberLine}, Turn.{Turn as TurnInCode}}
use Rattle.nntp_store.specs.{declared.text.read_fault.ReadFault.{ReadFault}, Reading.{◌>>=◌, Place, Turn, On, Done, segments_of}, Fields.{OpeningValue, Group}}
use Rattle.nntp_store.specs.Fields.{Article, End, fields_of, value_of}
use Rattle.nntp_article.specs.{Article.Parts.{Id}, Session.Spool.{Spool}}
use Rattle.nntp_store.specs.declared.text.place.Opening.TheVariants as InCode
use Rattle.nntp_store.specs.declared.text.place.Turn.TheVariants as turns

-- where reading is
abbrev pub place_shown : PlaceInCode → Place
place_shown p = record { line = p.line; segments = segments_of p.rest.now }

-- the words of what stands behind a space, if one does
abbrev pub words_from : Option (Bor (List ℕ)) → List (List ℕ)
words_from None = []
words_from (Some rest) = fields_of rest.now

-- what a line begins
abbrev pub opening_shown : Opening → OpeningValue
opening_shown (InCode.Group name count) = Group name.now count
opening_shown (InCode.Article id heads bodies) = Article id.now heads bodies
opening_shown InCode.End = End

-- the number and the id of a line
abbrev pub number_line_shown : NumberLine → ℕ × Id
number_line_shown l = (value_of l.digits.now, l.id.now)

-- where an item leads, with the groups and articles so far
abbrev pub turn_shown : {A : Type 0} → Spool → TurnInCode A → Turn
turn_shown S (turns.On articles place) = On articles S (place_shown place)
turn_shown S (turns.Done content place) = Done content (place_shown place)

-- the text goes on from what was read, behind an article or not
abbrev pub turn_of : Bool → Result (Spool × Place) ReadFault → Result Turn ReadFault
turn_of articles read = read >>= λ s. Ok (On articles s.0 s.1)
