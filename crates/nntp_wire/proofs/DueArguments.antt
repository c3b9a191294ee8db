-- The arguments behind a code are those that are due exactly if they name a group with its marks, or an article.
use Rattle.std.proofs.{Common.{arith, ◌≡◌, ℕ, ◌+◌, ◌&&◌, Bool, true, false, List, [], ◌∷◌, inl, inr, refl, sym, ap, ◌∙◌, cond}, lemmas.Bool.{cases_Bool}}
use Rattle.std.{proofs.lemmas.Bool.{and_from, false≢true}, specs.{Prelude.{is_none}, List.{slice_split}}}
use Rattle.nntp_wire.specs.{Number.{number_value}, Argument.{BeginsWithArgument, BeginsWithNumber, HasArticle, HasGroup}, Misspelling.{is_space, arguments_of}}
use Rattle.nntp_wire.specs.{Misspelling.{dues, is_argument, argument_misspelling}, declared.{kind.Kind.TheVariants.{Group, Sent}, misspelling.Due.{Due}}}
use Rattle.nntp_wire.specs.declared.{misspelling.Due.TheVariants.{Number, GroupName, MessageId}, water_marks.WaterMarks.{WaterMarks}}
use Rattle.nntp_wire.proofs.{Reasons.{none_unless, none_two}, MisspellingLemmas.{argument-first, argument-some}, DecidedLemmas.{message_id-iff, group_name-iff}}

-- the arguments begin with what is due
abbrev pub are_arguments : List Due → List (List ℕ) → Bool
are_arguments [] words = true
are_arguments (due ∷ later) [] = false
are_arguments (due ∷ later) (word ∷ words) = is_argument due word && are_arguments later words

pub none_arguments : (place : ℕ) (later : List Due) (words : List (List ℕ)) → is_none (argument_misspelling place later words) ≡ are_arguments later words
none_arguments place [] words = refl
none_arguments place (due ∷ later) [] = refl
none_arguments place (due ∷ later) (word ∷ words) = none_two _ _ _ _ (none_unless (is_argument due word) _) (none_arguments (place + 1) later words)

-- the octets begin with an argument that is due, and go on with others
record Takes (due : Due) (later : List Due) (bytes : List ℕ) : Type 0 where
  word : List ℕ
  rest : List ℕ
  begins : BeginsWithArgument bytes word rest
  is : is_argument due word ≡ true
  more : are_arguments later (arguments_of rest) ≡ true

take_due : (due : Due) (later : List Due) (bytes : List ℕ) → are_arguments (due ∷ later) (arguments_of bytes) ≡ true → Takes due later bytes
take_due due later [] h = absurd (false≢true h)
take_due due later (b ∷ bs) h = elim (cases_Bool (is_space b)) [
  | inl is ↦ (let a = argument-some b bs is in
      let e = argument-first (b ∷ bs) a.0 a.1 a.2 in
      grind arith)
  | inr other ↦ absurd (false≢true (sym (ap (λ t. are_arguments (due ∷ later) (cond t (slice_split is_space bs) [])) other) ∙ h))
]

put_due : (due : Due) (later : List Due) (bytes word rest : List ℕ) → BeginsWithArgument bytes word rest → is_argument due word ≡ true
    → are_arguments later (arguments_of rest) ≡ true → are_arguments (due ∷ later) (arguments_of bytes) ≡ true
put_due due later bytes word rest begins is more = grind (arith, argument-first, and_from)

numbered : (later : List Due) (bytes : List ℕ) → (t : Takes Number later bytes) → BeginsWithNumber bytes (number_value t.word) t.rest
numbered later bytes t = record { word = t.word; begins = t.begins; writes = (t.is, refl) }

put_number : (later : List Due) (bytes rest : List ℕ) (n : ℕ) → BeginsWithNumber bytes n rest → are_arguments later (arguments_of rest) ≡ true
    → are_arguments (Number ∷ later) (arguments_of bytes) ≡ true
put_number later bytes rest n b more = put_due Number later bytes b.word rest b.begins b.writes.0 more

-- three numbers and the name of a group
abbrev pub Grouped : List ℕ → Type 0
Grouped bytes = (marks : WaterMarks) × (name : List ℕ) × HasGroup bytes marks name

pub group_taken : (bytes : List ℕ) → are_arguments (dues Group) (arguments_of bytes) ≡ true → Grouped bytes
group_taken bytes h =
    let e = take_due Number (Number ∷ Number ∷ GroupName ∷ []) bytes h in
    let l = take_due Number (Number ∷ GroupName ∷ []) e.rest e.more in
    let u = take_due Number (GroupName ∷ []) l.rest l.more in
    let n = take_due GroupName [] u.rest u.more in (
      record { estimate = number_value e.word; low = number_value l.word; high = number_value u.word },
      n.word,
      record {
        second = e.rest;
        third = l.rest;
        fourth = u.rest;
        comment = n.rest;
        estimate_first = numbered (Number ∷ Number ∷ GroupName ∷ []) bytes e;
        low_second = numbered (Number ∷ GroupName ∷ []) e.rest l;
        high_third = numbered (GroupName ∷ []) l.rest u;
        name_fourth = n.begins;
        is_name = (group_name-iff n.word).0 n.is;
      },
    )

pub group_put : (bytes : List ℕ) → Grouped bytes → are_arguments (dues Group) (arguments_of bytes) ≡ true
group_put bytes (m, name, g) =
    put_number (Number ∷ Number ∷ GroupName ∷ []) bytes g.second m.estimate g.estimate_first
    (put_number (Number ∷ GroupName ∷ []) g.second g.third m.low g.low_second
    (put_number (GroupName ∷ []) g.third g.fourth m.high g.high_third
    (put_due GroupName [] g.fourth name g.comment g.name_fourth ((group_name-iff name).1 g.is_name) refl)))

-- the number and the id of an article
abbrev pub Numbered : List ℕ → Type 0
Numbered bytes = (n : ℕ) × (id : List ℕ) × HasArticle bytes n id

pub article_taken : (bytes : List ℕ) → are_arguments (dues Sent) (arguments_of bytes) ≡ true → Numbered bytes
article_taken bytes h =
    let n = take_due Number (MessageId ∷ []) bytes h in
    let i = take_due MessageId [] n.rest n.more in
    (number_value n.word, i.word, record { second = n.rest; comment = i.rest; number_first = numbered (MessageId ∷ []) bytes n; id_second = i.begins; is_id = (message_id-iff i.word).0 i.is })

pub article_put : (bytes : List ℕ) → Numbered bytes → are_arguments (dues Sent) (arguments_of bytes) ≡ true
article_put bytes (n, id, a) =
    put_number (MessageId ∷ []) bytes a.second n a.number_first (put_due MessageId [] a.second id a.comment a.id_second ((message_id-iff id).1 a.is_id) refl)
