-- Control messages (RFC 1036, section 3).
use Rattle.std.specs.{Prelude.{ℕ, Bool, true, false, ◌&&◌, if◌then◌else◌, List, [], ◌∷◌, map, codes}, List.{filter}, Str.{bytes_eq}}
use Rattle.nntp_wire.specs.{Words.{words_of}, Decided.{is_message_id, is_group_name}}
use Rattle.nntp_article.specs.Article.Parts.{Line, Id, Header, headers, is_named, content_of}

-- what a Control header says
pub data ControlValue : Type 0 where
  cancel : (id : Id) → ControlValue
  new_group : (name : List ℕ) → (moderated : Bool) → ControlValue
  rm_group : (name : List ℕ) → ControlValue
  other : (content : List ℕ) → ControlValue

-- a content of two words
abbrev pub control_of_two : List ℕ → List ℕ → List ℕ → ControlValue
control_of_two content verb subject =
    if bytes_eq verb (codes "cancel") && is_message_id subject then cancel subject
    else if bytes_eq verb (codes "newgroup") && is_group_name subject then new_group subject false
    else if bytes_eq verb (codes "rmgroup") && is_group_name subject then rm_group subject
    else other content

-- a content of three words
abbrev pub control_of_three : List ℕ → List ℕ → List ℕ → List ℕ → ControlValue
control_of_three content verb subject status =
    if bytes_eq verb (codes "newgroup") && is_group_name subject && bytes_eq status (codes "moderated") then new_group subject true
    else other content

abbrev pub control_by_words : List ℕ → List (List ℕ) → ControlValue
control_by_words content (verb ∷ subject ∷ []) = control_of_two content verb subject
control_by_words content (verb ∷ subject ∷ status ∷ []) = control_of_three content verb subject status
control_by_words content words = other content

-- what a content says as that of a Control header
abbrev pub control_of : List ℕ → ControlValue
control_of content = control_by_words content (words_of content)

-- what the Control headers among these say, in order
abbrev pub controls_among : List Header → List ControlValue
controls_among headers = map (λ header. control_of (content_of header)) (filter (is_named (codes "Control")) headers)

-- what those of a head say
abbrev pub controls_of : List Line → List ControlValue
controls_of lines = controls_among (headers lines)
