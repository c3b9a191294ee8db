-- A frame spells nothing exactly if there is a reason why.
use Rattle.std.proofs.Common.{arith, ◌≡◌, ℕ, ◌+◌, ◌↔◌, ◌&&◌, Bool, true, false, List, [], ◌∷◌, length, map, drop, Option, None, Some, refl, sym, ap, ◌∙◌, cond}
use Rattle.std.proofs.{Common.{subst}, lemmas.{List.{append-nil, Splits.{join_with_byte-slice_split}}, Bool.{and_from, and_parts, eqb-true, false≢true}}}
use Rattle.std.{proofs.lemmas.Bool.{true≢false}, specs.{Prelude.{is_none, is_some, option_map, ⊤}, List.{AllByRecursion, join_with_byte}}}
use Rattle.nntp_wire.specs.{Octets.{is_clean, tab}, Lines.{ended, lines_of_stream}, Block.{stuffed, unstuffed, AreClean}, Listing.{are_listed_numbers}}
use Rattle.nntp_wire.specs.Listing.{are_active_lines, begins_with_versions, overview_of, are_overview_lines, listed_id_of, are_listed_ids, fields_of}
use Rattle.nntp_wire.specs.{Listing.{number_of_words, listed_id_of_words, listed_id_of_fields}, Answer.{overviews_are, Asked, Response, group_is, numbers_are}}
use Rattle.nntp_wire.specs.{Answer.{sends, active_are, plain, Says, Spells, code_of, is_fitting, status_of, kind_of, is_block_due}, Words.{words_of}}
use Rattle.nntp_wire.specs.declared.{misspelling.LineFault.TheVariants.{NoListedNumber, NoListedId}, kind.Kind.{Kind, TheVariants.{Group, Numbers, Sent}}}
use Rattle.nntp_wire.specs.{declared.kind.Kind.TheVariants.{Active, Overview, Ids, Capabilities, Plain}, Inner.AnswerView.{SendsBlock, IsBlock, Reads}}
use Rattle.nntp_wire.specs.{Inner.Frame.{FrameParts, IsFrame}, Frame.{IsBlockLine, IsBeforeDotLine, frame_octets}, Misspelling.{arguments_of, dues}}
use Rattle.nntp_wire.specs.Misspelling.{has_no_single_dot, listing_fault, kind_behind, line_misspelling, lines_misspelling, block_misspelling}
use Rattle.nntp_wire.{specs.Misspelling.{misspelling_behind, code_misspelling, misspelling}, proofs.Reasons.{none_unless, none_two, none_three, none_by_test}}
use Rattle.nntp_wire.proofs.{Reasons.{and_true}, DueArguments.{are_arguments, none_arguments, group_taken, group_put, article_taken, article_put}}
use Rattle.nntp_wire.proofs.{BlockLemmas.{stuffed-clean, unstuffed-clean, unstuffed-stuffed}, SpellLemmas.{sent-lines, status-code}, FrameLemmas.{line-nil}}
use Rattle.nntp_wire.proofs.{FrameLemmas.{no_crlfs}, StreamLemmas.{split-lines}, AnswerLemmas.{reads-spells, spells-reads}}

-- ---- lines

-- the lines, as they are sent, are right
abbrev are_right : Kind → List (List ℕ) → Bool
are_right kind [] = true
are_right kind (line ∷ lines) = (is_clean line && has_no_single_dot line && is_none (listing_fault kind (unstuffed line))) && are_right (kind_behind kind) lines

none_mapped : {A B : Type 0} (f : A → B) (o : Option A) → is_none (option_map f o) ≡ is_none o
none_mapped f o = grind arith

none_lines : (kind : Kind) (place : ℕ) (lines : List (List ℕ)) → is_none (line_misspelling kind place lines) ≡ are_right kind lines
none_lines kind place [] = refl
none_lines kind place (line ∷ lines) = grind (arith, none_mapped, none_unless, none_lines (kind_behind kind) (place + 1) lines)

-- a dot that is followed by another was put in front
doubled : (line : List ℕ) → has_no_single_dot line ≡ true → stuffed (unstuffed line) ≡ line
doubled line h = grind arith

stuffed-doubled : (line : List ℕ) → has_no_single_dot (stuffed line) ≡ true
stuffed-doubled line = grind arith

-- lines before they are sent list what they have to
abbrev lists : Kind → List (List ℕ) → Bool
lists kind [] = true
lists kind (line ∷ lines) = is_none (listing_fault kind line) && lists (kind_behind kind) lines

-- lines that were sent are right
right_parts : (kind : Kind) (lines : List (List ℕ)) → are_right kind lines ≡ true
    → AreClean (map unstuffed lines) × (map stuffed (map unstuffed lines) ≡ lines) × (lists kind (map unstuffed lines) ≡ true)
right_parts kind [] h = (tt, refl, refl)
right_parts kind (line ∷ lines) h = grind (arith, and_parts, right_parts (kind_behind kind) lines, unstuffed-clean, doubled)

right_sent : (kind : Kind) (lines : List (List ℕ)) → AreClean lines → lists kind lines ≡ true → are_right kind (map stuffed lines) ≡ true
right_sent kind [] clean h = refl
right_sent kind (line ∷ lines) clean h = grind (arith, and_parts, and_from, stuffed-clean, stuffed-doubled, unstuffed-stuffed, right_sent (kind_behind kind) lines clean.1)

-- a line is an overview exactly if it has a number in front and an id in its place
overview_parts : (line : List ℕ) → is_none (listing_fault Overview line) ≡ is_some (overview_of line)
overview_parts line = search (arith, none_two, none_unless)

both_true : (p q : Bool) → (q ≡ true → p ≡ true) → (p && q) ≡ q
both_true p q f = grind arith

-- and one of HDR exactly if it begins with a number and is a number and an id
listed_id_parts : (line : List ℕ) → is_none (listing_fault Ids line) ≡ is_some (listed_id_of line)
listed_id_parts line = none_two _ _ _ _ (none_unless (is_some (number_of_words (words_of line))) NoListedNumber) (none_unless (is_some (listed_id_of line)) NoListedId)
    ∙ both_true _ _ (by (fields_of line) refl)
  where
    numbered : (words : List (List ℕ)) → is_some (listed_id_of_words words) ≡ true → is_some (number_of_words words) ≡ true
    numbered words h = grind arith

    by : (fields : List (List ℕ)) → fields_of line ≡ fields → is_some (listed_id_of_fields fields) ≡ true → is_some (number_of_words (words_of line)) ≡ true
    by (field ∷ []) e h =
        let same : field ≡ line = sym (ap (join_with_byte tab) e) ∙ join_with_byte-slice_split tab line in
        subst (λ line. is_some (number_of_words (words_of line)) ≡ true) same (numbered (words_of field) h)
    by fields e h = grind (arith, false≢true)

-- what the lines of a response of this kind have to list
abbrev listing : Kind → List (List ℕ) → Bool
listing Numbers lines = are_listed_numbers lines
listing Active lines = are_active_lines lines
listing Overview lines = are_overview_lines lines
listing Ids lines = are_listed_ids lines
listing Capabilities lines = begins_with_versions lines
listing kind lines = true

-- where there is a line, or none is due
abbrev listed : Kind → List (List ℕ) → Bool
listed Capabilities [] = false
listed kind lines = lists kind lines

listing-listed : (kind : Kind) (lines : List (List ℕ)) → listed kind lines ≡ listing kind lines
listing-listed Capabilities [] = refl
listing-listed Capabilities (line ∷ lines) = grind (arith, none_unless, and_true, listing-listed Plain lines)
listing-listed kind [] = refl
listing-listed kind (line ∷ lines) = grind (arith, none_unless, overview_parts, listed_id_parts, listing-listed kind lines)

-- ---- blocks

-- the lines are those of the octets, each followed by CRLF
lines-are : (bytes : List ℕ) (lines : List (List ℕ)) → AllByRecursion IsBlockLine lines → bytes ≡ ended lines → lines ≡ lines_of_stream bytes
lines-are bytes lines each whole = split-lines bytes lines [] (record { whole = whole ∙ sym (append-nil (ended lines)); each = no_crlfs lines each; last = line-nil })

-- what the lines of a block list, where there is one
abbrev Lists : Kind → Option (List (List ℕ)) → Type 0
Lists kind None = ⊤
Lists kind (Some lines) = listing kind lines ≡ true

-- a block in which no line is wrong
record Block (kind : Kind) (bytes : Option (List ℕ)) (is_due : Bool) : Type 0 where
  block : Option (List (List ℕ))
  is_block : IsBlock bytes is_due block
  all_listed : Lists kind block

listed_lines : (kind : Kind) (lines : List (List ℕ)) → is_none (lines_misspelling kind lines) ≡ true → (are_right kind lines ≡ true) × (listed kind (map unstuffed lines) ≡ true)
listed_lines kind lines h = grind (arith, false≢true, none_lines, right_parts)

sent_lines : (kind : Kind) (lines : List (List ℕ)) → AreClean lines → listed kind lines ≡ true → is_none (lines_misspelling kind (map stuffed lines)) ≡ true
sent_lines kind lines clean h = grind (arith, none_lines, right_sent)

block_taken : (kind : Kind) (is_due : Bool) (bytes : Option (List ℕ)) → IsBeforeDotLine bytes → is_none (block_misspelling kind is_due bytes) ≡ true → Block kind bytes is_due
block_taken kind true (Some bytes) (lines, each, whole) h =
    let same : lines ≡ lines_of_stream bytes = lines-are bytes lines each whole in
    let both = listed_lines kind lines (ap (λ ls. is_none (lines_misspelling kind ls)) same ∙ h) in
    let right = right_parts kind lines both.0 in
    record {
      block = Some (map unstuffed lines);
      is_block = record { sends = record { clean = right.0; whole = whole ∙ ap ended (sym right.1) }; due = refl };
      all_listed = sym (listing-listed kind (map unstuffed lines)) ∙ both.1;
    }
block_taken kind is_due bytes before h = grind (arith, false≢true)

block_put : (kind : Kind) (is_due : Bool) (bytes : Option (List ℕ)) (block : Option (List (List ℕ))) → SendsBlock bytes block → is_some block ≡ is_due → Lists kind block
    → is_none (block_misspelling kind is_due bytes) ≡ true
block_put kind is_due (Some bytes) (Some lines) is due right = grind (arith, true≢false, lines-are, sent-lines, sent_lines, listing-listed)
block_put kind is_due bytes block is due right = grind arith

-- ---- responses

-- a response of this kind lists something
abbrev is_listing : Kind → Bool
is_listing Group = false
is_listing Sent = false
is_listing Plain = false
is_listing kind = true

says_of : (kind : Kind) (code : ℕ) (bytes : List ℕ) (block : Option (List (List ℕ))) → (is_listing kind ≡ true → is_some block ≡ true)
    → are_arguments (dues kind) (arguments_of bytes) ≡ true → Lists kind block → (r : Response) × Says kind code bytes block r
says_of Group code bytes block some args right = let g = group_taken bytes args in (group_is g.0 g.1, g.2)
says_of Numbers code bytes (Some lines) some args right = let g = group_taken bytes args in (numbers_are g.0 g.1 lines, (g.2, right, refl))
says_of Sent code bytes block some args right = let a = article_taken bytes args in (sends (record { code = code; number = a.0; id = a.1; block = block }), (refl, a.2, refl))
says_of Active code bytes (Some lines) some args right = (active_are lines, (right, refl))
says_of Capabilities code bytes (Some lines) some args right = (plain code, (right, refl))
says_of Plain code bytes block some args right = (plain code, refl)
says_of kind code bytes (Some lines) some args right = (overviews_are lines, (right, refl))
says_of kind code bytes None some args right = absurd (false≢true (some refl))

any_block : (kind : Kind) → ((lines : List (List ℕ)) → listing kind lines ≡ true) → (block : Option (List (List ℕ))) → Lists kind block
any_block kind all block = grind arith

says_back : (kind : Kind) (code : ℕ) (bytes : List ℕ) (block : Option (List (List ℕ))) (r : Response) → Says kind code bytes block r
    → (are_arguments (dues kind) (arguments_of bytes) ≡ true) × Lists kind block
says_back kind code bytes block r says = grind (arith, group_put, article_put, any_block)

either_not : (b : Bool) (k l : Kind) → is_listing k ≡ false → is_listing l ≡ false → is_listing (cond b k l) ≡ true → ⊥
either_not b k l e f h = grind arith

-- what lists something has a block
listing_due : (asked : Asked) (code : ℕ) → is_listing (kind_of asked code) ≡ true → is_block_due asked code ≡ true
listing_due asked code h = grind (arith, eqb-true, either_not)

-- a line with a status is clean and fits
status_front : (asked : Asked) (line : List ℕ) (code : ℕ) → status_of asked line ≡ Some code → (is_clean line && is_fitting asked (length line)) ≡ true
status_front asked line code e = grind arith

module _ (asked : Asked) (line : List ℕ) (bytes : Option (List ℕ)) where
  none_whole : is_none (misspelling asked line bytes) ≡ (is_clean line && is_fitting asked (length line) && is_none (code_misspelling asked line bytes (code_of line)))
  none_whole = none_three _ _ _ _ _ _ (none_unless (is_clean line) _) (none_unless (is_fitting asked (length line)) _) refl

  none_behind : (kind : Kind) (is_due : Bool) (behind : List ℕ)
      → is_none (misspelling_behind kind is_due behind bytes) ≡ (are_arguments (dues kind) (arguments_of behind) && is_none (block_misspelling kind is_due bytes))
  none_behind kind is_due behind = none_two _ _ _ _ (none_arguments 1 (dues kind) (arguments_of behind)) refl

  -- without a reason there is a response
  read : IsBeforeDotLine bytes → misspelling asked line bytes ≡ None → (r : Response) × Reads asked line bytes r
  read before e =
      let both = and_parts (is_clean line && is_fitting asked (length line)) (is_none (code_misspelling asked line bytes (code_of line))) (sym none_whole ∙ ap is_none e) in
      by both.0 (code_of line) refl both.1
    where
      by : (is_clean line && is_fitting asked (length line)) ≡ true → (o : Option ℕ) → code_of line ≡ o → is_none (code_misspelling asked line bytes o) ≡ true
          → (r : Response) × Reads asked line bytes r
      by front None is h = absurd (false≢true h)
      by front (Some code) is h =
          let kind = kind_of asked code in
          let both = and_parts (are_arguments (dues kind) (arguments_of (drop 3 line))) (is_none (block_misspelling kind (is_block_due asked code) bytes))
          (sym (none_behind kind (is_block_due asked code) (drop 3 line)) ∙ h) in
          let b = block_taken kind (is_block_due asked code) bytes before both.1 in
          let says = says_of kind code (drop 3 line) b.block (λ due. b.is_block.due ∙ listing_due asked code due) both.0 b.all_listed in
          (says.0, record { code = code; block = b.block; status = ap (λ t. cond t (code_of line) None) front ∙ is; is_block = b.is_block; says = says.1 })

  -- where there is a response there is no reason
  unread : (r : Response) → Reads asked line bytes r → misspelling asked line bytes ≡ None
  unread r reads =
      let kind = kind_of asked reads.code in
      let is_due = is_block_due asked reads.code in
      let back = says_back kind reads.code (drop 3 line) reads.block r reads.says in
      let behind = none_behind kind is_due (drop 3 line)
      ∙ and_from (are_arguments (dues kind) (arguments_of (drop 3 line))) (is_none (block_misspelling kind is_due bytes)) back.0
      (block_put kind is_due bytes reads.block reads.is_block.sends reads.is_block.due back.1) in
      grind (arith, none_by_test, none_whole, and_from, status_front, status-code)

-- a reason is given exactly where the frame spells nothing
pub misspelled-alone : (asked : Asked) (f : FrameParts) → IsFrame f → (misspelling asked f.initial f.block ≡ None) ↔ ((r : Response) × Spells asked r (frame_octets f.initial f.block))
misspelled-alone asked f is = (
  λ e. let some = read asked f.initial f.block is.before_dot_line e in (some.0, reads-spells asked f.initial f.block some.0 some.1),
  λ some. unread asked f.initial f.block some.0 (spells-reads asked f.initial f.block some.0 is.is_line is.before_dot_line some.1),
)
