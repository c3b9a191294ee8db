-- What the lines so far leave to say of the id, line by line.
use Rattle.std.proofs.Common.{Bor, ◌≡◌, ◌≢◌, ℕ, Bool, true, false, List, [], ◌∷◌, ◌++◌, Option, None, Some, refl, sym, ◌∙◌, ap, arith}
use Rattle.std.{proofs.lemmas.Bool.{false≢true, true≢false}, specs.{Prelude.{if◌then◌else◌, codes}, Option.{SomeIff}, List.{filter, flat_map, after_first}}}
use Rattle.nntp_wire.{specs.{Words.{words_of}, Name.{IsMessageId}, Decided.{is_message_id}}, proofs.DecidedLemmas.{message_id-iff}}
use Rattle.nntp_article.specs.{Article.Parts.{Line, Id, Header, is_continuation, is_colon, headers, is_named, only_id, said_id}, Inner.SaidId.{names_id}}
use Rattle.nntp_article.specs.{Inner.{SaidId.{id_alone, id_with, ids_behind}, Parts.{more}}, declared.article.said_id.Found.{Found, TheVariants.{NoHeader}}}
use Rattle.nntp_article.{specs.declared.article.said_id.Found.TheVariants.{NoWord, Word}, proofs.ArticleLemmas.HeadLemmas.{after, more-yes, more-all}}
use Rattle.nntp_article.proofs.ArticleLemmas.{HeadLemmas.{after-yes, after-no, headers-cons}, WordLemmas.{words-lines}, IdLemmas.{content-id}}

abbrev is_id_header : Header → Bool
is_id_header header = is_named (codes "Message-ID") header

-- the words that follow in an open header
abbrev pub words_behind : Bool → List Line → List (List ℕ)
words_behind is_open lines = if is_open then flat_map words_of (more lines) else []

continuation_name : (line : Line) (lines : List Line) → is_continuation line ≡ true → is_id_header (line ∷ lines) ≡ false
continuation_name line lines h = grind arith

-- ---- the Message-ID headers behind a line

behind-yes : (line : Line) (lines : List Line) → is_continuation line ≡ true → ids_behind (line ∷ lines) ≡ ids_behind lines
behind-yes line lines h = ap (λ t. filter is_id_header (headers t)) (after-yes line lines h)

behind-no : (line : Line) (lines : List Line) → is_continuation line ≡ false → ids_behind (line ∷ lines) ≡ filter is_id_header ((line ∷ more lines) ∷ headers (after lines))
behind-no line lines h = ap (λ t. filter is_id_header (headers t)) (after-no line lines h) ∙ ap (filter is_id_header) (headers-cons line lines)

behind-named : (line : Line) (lines : List Line) → is_continuation line ≡ false → is_id_header (line ∷ more lines) ≡ true → ids_behind (line ∷ lines) ≡ (line ∷ more lines) ∷ ids_behind lines
behind-named line lines h named = behind-no line lines h ∙ (rw named refl)

behind-other : (line : Line) (lines : List Line) → is_continuation line ≡ false → is_id_header (line ∷ more lines) ≡ false → ids_behind (line ∷ lines) ≡ ids_behind lines
behind-other line lines h named = behind-no line lines h ∙ (rw named refl)

-- ---- no line

pub said-none : (lines : List Line) → only_id (ids_behind lines) ≡ said_id lines
said-none [] = refl
said-none (line ∷ lines) = at (is_continuation line) refl where
  at : (v : Bool) → is_continuation line ≡ v → only_id (ids_behind (line ∷ lines)) ≡ said_id (line ∷ lines)
  at true h =
      let first = continuation_name line (more lines) h in
      ap only_id (behind-yes line lines h) ∙ sym (ap (λ t. only_id (filter is_id_header t)) (headers-cons line lines) ∙ (rw first refl))
  at false h = ap (λ t. only_id (filter is_id_header (headers t))) (after-no line lines h)

-- ---- a continuation line

pub continued-closed : (found : Found) (is_open : Bool) (line : Line) (lines : List Line) → is_continuation line ≡ true → is_open ≡ false
    → id_with found (words_behind is_open lines) (ids_behind lines) ≡ id_with found (words_behind is_open (line ∷ lines)) (ids_behind (line ∷ lines))
continued-closed found is_open line lines h closed = grind (arith, true≢false, behind-yes)

pub continued-open : (found new : Found) (is_open : Bool) (line : Line) (lines : List Line) → is_continuation line ≡ true → is_open ≡ true
    → ((words : List (List ℕ)) (ids : List Header) → id_with new words ids ≡ id_with found (words_of line ++ words) ids)
    → id_with new (flat_map words_of (more lines)) (ids_behind lines) ≡ id_with found (words_behind is_open (line ∷ lines)) (ids_behind (line ∷ lines))
continued-open found new is_open line lines h opened by = grind (arith, false≢true, more, behind-yes, more-yes)

-- ---- a first line

-- no word of an open header follows
closed_words : (is_open : Bool) (line : Line) (lines : List Line) → is_continuation line ≡ false → words_behind is_open (line ∷ lines) ≡ []
closed_words is_open line lines h = grind arith

pub begun-other : (found : Found) (is_open : Bool) (line : Line) (lines : List Line) → is_continuation line ≡ false → names_id line ≡ false
    → id_with found [] (ids_behind lines) ≡ id_with found (words_behind is_open (line ∷ lines)) (ids_behind (line ∷ lines))
begun-other found is_open line lines h other = grind (arith, behind-other, closed_words)

-- the id of the only header, by its words
only-words : (line : Line) (lines : List Line) (ids : List Header) → only_id ((line ∷ more lines) ∷ ids) ≡ id_alone (words_of (after_first is_colon line) ++ flat_map words_of (more lines)) ids
only-words line lines ids = grind (arith, content-id, more, words-lines, more-all)

pub begun-first : (found new : Found) (is_open : Bool) (line value : Line) (lines : List Line) → is_continuation line ≡ false → names_id line ≡ true
    → found ≡ NoHeader → value ≡ after_first is_colon line
    → ((words : List (List ℕ)) (ids : List Header) → id_with new words ids ≡ id_with NoWord (words_of value ++ words) ids)
    → id_with new (flat_map words_of (more lines)) (ids_behind lines) ≡ id_with found (words_behind is_open (line ∷ lines)) (ids_behind (line ∷ lines))
begun-first found new is_open line value lines h named none is by = grind (arith, more, only-words, behind-named)

pub begun-again : (found : Found) (is_open : Bool) (line : Line) (lines : List Line) → is_continuation line ≡ false → names_id line ≡ true
    → found ≢ NoHeader
    → None ≡ id_with found (words_behind is_open (line ∷ lines)) (ids_behind (line ∷ lines))
begun-again found is_open line lines h named some = grind arith

-- ---- the end

-- a word that was tested for an id
pub tested-id : (word : List ℕ) (r : Option Id) → SomeIff r (IsMessageId word) word → r ≡ (if is_message_id word then Some word else None)
tested-id word r is = grind (arith, message_id-iff, false≢true)

pub ended-word : (found : Found) (is_open : Bool) (word : Bor Line) → found ≡ Word word
    → (if is_message_id word.now then Some word.now else None) ≡ id_with found (words_behind is_open []) (ids_behind [])
ended-word found is_open word is = grind arith
