-- Reading a spool's text line by line, with the first fault that is met.
use Rattle.std.specs.Prelude.{ℕ, zero, suc, ◌+◌, Bool, true, false, not, ◌&&◌, ◌==◌, if◌then◌else◌, List, [], ◌∷◌, ◌++◌, Option, None, Some, Result, Ok, Err}
use Rattle.std.specs.{Prelude.{length, codes, bytes_eq}, List.{slice_split}, FinMap.{insert, empty}}
use Rattle.nntp_wire.specs.{Decided.{is_group_name, is_message_id}, Limit.{greatest}, declared.limit.Limit.{Limit, TheVariants.{Narrow, Wide}}}
use Rattle.nntp_article.specs.{Article.Parts.{Line, Id, is_empty}, Session.{Spool.{Name, Spool, Numbers}, Machine.{is_article_number}}}
use Rattle.nntp_content.specs.{Ascending.{is_last}, Numbers.{has_id}, Content.{no_spool, with_group, with_article, is_head_of, ids_have_articles}}
use Rattle.nntp_store.specs.{declared.text.read_fault.{Kind.{Kind}, ReadFault.{ReadFault}}, Limited.{LimitedSpool}, Fields.{fields_of, OpeningValue, Group}}
use Rattle.nntp_store.specs.Fields.{Article, End, opening_of, number_and_id, unbarred}
use Rattle.nntp_store.specs.declared.text.read_fault.Kind.TheVariants as kinds

infixl 10 ◌>>=◌
abbrev pub ◌>>=◌ : {A B : Type 0} → Result A ReadFault → (A → Result B ReadFault) → Result B ReadFault
(Ok x) >>= f = f x
(Err e) >>= f = Err e

abbrev pub fault : {A : Type 0} → ℕ → Kind → Result A ReadFault
fault line kind = Err (record { line = line; kind = kind })

-- ---- lines

-- where reading is: the number of the next line, and the segments between line ends from there on
pub record Place : Type 0 where
  pub line : ℕ
  pub segments : List Line

abbrev pub segments_of : List ℕ → List Line
segments_of bytes = slice_split (λ c. c == 10) bytes

-- the last segment has no end, and so is no line
abbrev pub next_line : ℕ → List Line → Result (Line × Place) ReadFault
next_line line [] = fault line kinds.Shape
next_line line (segment ∷ []) = fault line kinds.Shape
next_line line (segment ∷ next ∷ segments) = Ok (segment, record { line = line + 1; segments = next ∷ segments })

abbrev pub line_at : Place → Result (Line × Place) ReadFault
line_at p = next_line p.line p.segments

abbrev pub shaped : {A : Type 0} → ℕ → Option A → Result A ReadFault
shaped line None = fault line kinds.Shape
shaped line (Some x) = Ok x

-- ---- lists

-- so many steps are made, each from where the one before led
abbrev pub repeat : {S : Type 0} → (S → Result S ReadFault) → ℕ → S → Result S ReadFault
repeat step zero s = Ok s
repeat step (suc count) s = step s >>= repeat step count

-- the number and the id of a line
unfoldable pub number_in : ℕ → ℕ → Line → Result (ℕ × Id) ReadFault
number_in limit line l = do
  e ← shaped line (number_and_id (fields_of l))
  if not (is_article_number limit e.0) then fault line kinds.Number
      else (if not (is_message_id e.1) then fault line kinds.Id else Ok e)

-- one more number of a group
unfoldable pub number_at : ℕ → Numbers × Place → Result (Numbers × Place) ReadFault
number_at limit s = do
  l ← line_at s.1
  e ← number_in limit s.1.line l.0
  if not (is_last s.0 e.0) then fault s.1.line kinds.Order
      else (if has_id s.0 e.1 then fault s.1.line kinds.DuplicateId else Ok (insert s.0 e.0 e.1, l.1))

abbrev pub numbers_at : ℕ → ℕ → Place → Result (Numbers × Place) ReadFault
numbers_at limit count p = repeat (number_at limit) count (empty, p)

-- one more line of an article
unfoldable pub barred_line_at : List Line × Place → Result (List Line × Place) ReadFault
barred_line_at s = do
  l ← line_at s.1
  line ← shaped s.1.line (unbarred l.0)
  Ok (s.0 ++ line ∷ [], l.1)

abbrev pub barred_lines_at : ℕ → Place → Result (List Line × Place) ReadFault
barred_lines_at count p = repeat barred_line_at count ([], p)

-- ---- items

-- the numbers of a group, whose line is the one given
unfoldable pub group_at : ℕ → ℕ → Name → ℕ → Spool → Place → Result (Spool × Place) ReadFault
group_at limit line name count S p =
    if not (is_group_name name) then fault line kinds.Name
    else (if not (is_last S.groups name) then fault line kinds.Order
    else (numbers_at limit count p >>= λ N. Ok (with_group S name N.0, N.1)))

-- the lines of an article, whose line is the one given
unfoldable pub article_at : ℕ → Id → ℕ → ℕ → Spool → Place → Result (Spool × Place) ReadFault
article_at line id heads bodies S p =
    if not (is_message_id id) then fault line kinds.Id
    else (if not (is_last S.articles id) then fault line kinds.Order
    else (barred_lines_at heads p >>= λ head. barred_lines_at bodies head.1 >>= λ body.
    if is_head_of id head.0 then Ok (with_article S id (record { head = head.0; body = body.0 }), body.1) else fault line kinds.Head))

-- where an item leads: on, behind an article or not, or to the end
pub data Turn : Type 0 where
  On : (articles : Bool) → (spool : Spool) → (place : Place) → Turn
  Done : (spool : Spool) → (place : Place) → Turn

-- the end is read, where each id has its article
abbrev pub end_at : ℕ → Spool → Place → Result Turn ReadFault
end_at line S p = if ids_have_articles S then Ok (Done S p) else fault line kinds.UnknownId

-- what stands behind an item's line
abbrev pub item_then : ℕ → ℕ → Bool → Spool → Place → OpeningValue → Result Turn ReadFault
item_then limit line articles S p (Group name count) = if articles then fault line kinds.Shape else (group_at limit line name count S p >>= λ g. Ok (On false g.0 g.1))
item_then limit line articles S p (Article id heads bodies) = article_at line id heads bodies S p >>= λ a. Ok (On true a.0 a.1)
item_then limit line articles S p End = end_at line S p

-- an item is read: no group stands behind an article
unfoldable pub item_at : ℕ → Bool → Spool → Place → Result Turn ReadFault
item_at limit articles S p = do
  l ← line_at p
  item ← shaped p.line (opening_of (fields_of l.0))
  item_then limit p.line articles S l.1 item

abbrev pub turn_then : (Bool → Spool → Place → Result (Spool × Place) ReadFault) → Turn → Result (Spool × Place) ReadFault
turn_then more (On articles S p) = more articles S p
turn_then more (Done S p) = Ok (S, p)

-- the items up to `end`, at most so many
abbrev pub items_at : ℕ → ℕ → Bool → Spool → Place → Result (Spool × Place) ReadFault
items_at limit zero articles S p = fault p.line kinds.Shape
items_at limit (suc most) articles S p = item_at limit articles S p >>= turn_then (items_at limit most)

-- no octet is left behind the last line
abbrev pub is_end : List Line → Bool
is_end [] = false
is_end (segment ∷ segments) = is_empty segment && is_empty segments

-- the rest of a text, behind the lines of its limit
unfoldable pub content_at : ℕ → ℕ → Place → Result Spool ReadFault
content_at limit most p = do
  s ← items_at limit most false no_spool p
  if is_end s.1.segments then Ok s.0 else fault s.1.line kinds.Shape

-- ---- the limit

-- the second line of a text whose limit is the wide one
unfoldable pub wide_at : Place → Result (Limit × Place) ReadFault
wide_at p = do
  l ← line_at p
  if bytes_eq l.0 (codes "limit 9999999999999999") then Ok (Wide, l.1) else fault p.line kinds.Shape

-- the limit, and where its lines end
unfoldable pub limit_at : Place → Result (Limit × Place) ReadFault
limit_at p = do
  l ← line_at p
  if bytes_eq l.0 (codes "spool 1") then Ok (Narrow, l.1)
      else (if bytes_eq l.0 (codes "spool 2") then wide_at l.1 else fault p.line kinds.Shape)

-- A whole text. It has fewer items than octets.
unfoldable pub spool_at : List ℕ → Result LimitedSpool ReadFault
spool_at bytes = do
  l ← limit_at (record { line = 1; segments = segments_of bytes })
  S ← content_at (greatest l.0) (length bytes) l.1
  Ok (record { limit = l.0; spool = S })
