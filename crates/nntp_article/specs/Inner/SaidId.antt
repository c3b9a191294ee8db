-- What the lines of a head so far leave to say of its id.
use Rattle.std.specs.{Prelude.{ℕ, Bool, if◌then◌else◌, List, [], ◌∷◌, Option, None, Some, codes, drop}, List.{filter, flat_map, take_while, prefix_len}}
use Rattle.std.specs.List.{before_first}
use Rattle.nntp_wire.specs.{Words.{words_of, is_same_word}, Decided.{is_message_id}}
use Rattle.nntp_article.specs.{Article.Parts.{Line, Id, Header, headers, is_colon, is_continuation, is_named, only_id}, declared.article.said_id.Found.{Found}}
use Rattle.nntp_article.specs.declared.article.said_id.{Found.TheVariants.{NoHeader, NoWord, Word, NoId}, SaidId.{SaidId}}

-- a first line of a Message-ID header
abbrev pub names_id : Line → Bool
names_id line = is_same_word (before_first is_colon line) (codes "Message-ID")

-- a content of these words is an id
abbrev pub id_of_words : List (List ℕ) → Option Id
id_of_words [] = None
id_of_words (word ∷ []) = if is_message_id word then Some word else None
id_of_words (word ∷ next ∷ words) = None

-- the same of the only Message-ID header, where no other one follows
abbrev pub id_alone : List (List ℕ) → List Header → Option Id
id_alone words [] = id_of_words words
id_alone words (header ∷ more) = None

-- the id, where these words follow in the header, and then these Message-ID headers
abbrev pub id_with : Found → List (List ℕ) → List Header → Option Id
id_with NoHeader words more = only_id more
id_with NoWord words more = id_alone words more
id_with (Word word) words more = id_alone (word.now ∷ words) more
id_with NoId words more = None

-- the lines that continue the header before them
abbrev pub continuation_of : List Line → List Line
continuation_of lines = take_while is_continuation lines

-- the Message-ID headers behind those
abbrev pub ids_behind : List Line → List Header
ids_behind lines = filter (is_named (codes "Message-ID")) (headers (drop (prefix_len is_continuation lines) lines))

-- the id, where these lines follow
abbrev pub id_by : SaidId → List Line → Option Id
id_by so_far lines = id_with so_far.found (if so_far.is_open then flat_map words_of (continuation_of lines) else []) (ids_behind lines)
