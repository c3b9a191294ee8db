-- The line of a header as it is written, word by word.
use Rattle.std.proofs.{Common.{◌≡◌, ℕ, true, List, [], ◌∷◌, ◌++◌, length, refl, ◌∙◌, ap, arith, append_assoc}, lemmas.Bool.{and_parts, and_from}}
use Rattle.std.{proofs.lemmas.List.Folds.{list_all-append}, specs.{Prelude.{not, ◌&&◌, nat_le, codes}, List.{list_all}}}
use Rattle.nntp_wire.{specs.{Decided.{is_id_octet, begins_id}, Name.{IsMessageId}, Octets.{is_clean, is_line_breaking}}, proofs.DecidedLemmas.{message_id-iff}}
use Rattle.nntp_wire.proofs.JoinedWords.{spaced}
use Rattle.nntp_article.specs.{Article.Fields.{Word, name_of_field}, Inner.Fields.{is_word}, Session.Spool.{is_line}, declared.article.field.Field.{Field}}
use Rattle.nntp_article.specs.declared.article.field.Field.TheVariants.{Subject, From, Date, References}

-- what stands in front of the words
abbrev pub start : Field → List ℕ
start field = name_of_field field ++ 58 ∷ []

-- one more word is written
pub word_written : (line : List ℕ) (word : Word) (words : List Word) → (line ++ 32 ∷ word) ++ spaced words ≡ line ++ spaced (word ∷ words)
word_written line word words = grind (arith, append_assoc)

-- words that are no lines' ends
spaced_clean : (words : List Word) → list_all is_word words ≡ true → is_clean (spaced words) ≡ true
spaced_clean [] h = refl
spaced_clean (word ∷ words) h =
    let p = and_parts (is_word word) _ h in
    let clean = (and_parts (is_clean word) _ (and_parts _ (is_line word) p.0).1).0 in
    list_all-append (λ b. not (is_line_breaking b)) word (spaced words) ∙ and_from _ _ clean (spaced_clean words p.1)

start_clean : (field : Field) → is_clean (start field) ≡ true
start_clean Subject = refl
start_clean From = refl
start_clean Date = refl
start_clean References = refl

-- the line holds no NUL, CR or LF
pub line_clean : (field : Field) (words : List Word) (line : List ℕ) → list_all is_word words ≡ true → line ≡ start field ++ spaced words → is_clean line ≡ true
line_clean field words line h e =
    ap is_clean e ∙ list_all-append (λ b. not (is_line_breaking b)) (start field) (spaced words)
    ∙ and_from _ _ (start_clean field) (spaced_clean words h)

-- ---- the line of an id

-- octets of an id make a line
id_octets_clean : (octets : List ℕ) → list_all is_id_octet octets ≡ true → is_clean octets ≡ true
id_octets_clean [] h = refl
id_octets_clean (c ∷ cs) h = grind (arith, id_octets_clean cs (and_parts (is_id_octet c) _ h).1)

-- a message id has octets of ids alone
id_octets_of : (id : List ℕ) → IsMessageId id → list_all is_id_octet id ≡ true
id_octets_of id h = (and_parts (nat_le 3 (length id) && nat_le (length id) 250) _ (and_parts _ (begins_id id) ((message_id-iff id).1 h)).0).1

-- the line of an id holds no NUL, CR or LF
pub id_line_clean : (id : List ℕ) → IsMessageId id → is_clean (codes "Message-ID: " ++ id) ≡ true
id_line_clean id h = id_octets_clean id (id_octets_of id h)

-- it is put together piece by piece
pub id_line_put : {empty front whole told id : List ℕ} → empty ≡ [] → front ≡ empty ++ codes "Message-ID: " → whole ≡ front ++ told → told ≡ id → whole ≡ codes "Message-ID: " ++ id
id_line_put e front whole told = rw (whole, front, e, told) refl
