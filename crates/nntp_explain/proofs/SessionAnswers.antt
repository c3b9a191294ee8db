-- The answers of one session behind others: as they are judged, counted, cited and told.
use Rattle.std.proofs.Common.{◌≡◌, ◌∙◌, sym, refl, ap, subst, ℕ, ◌+◌, ◌-◌, ◌≤◌, Bool, true, false, List, [], ◌∷◌, ◌++◌, Option, Some, length, map, arith}
use Rattle.std.{proofs.{Common.{append_assoc, append-nil, length-append}, lemmas.List.{map-append}}, specs.{Prelude.{nat_lt, cond, codes}, List.{flat_map}}}
use Rattle.std.specs.Option.{option_map_or}
use Rattle.nntp_article.specs.{declared.session.profile.Profile.{Profile}, Session.Machine.{Visible, visible_after}}
use Rattle.nntp_pair.specs.{Pairing.{Paired, Unpaired, Ending, asked_at, asked_of, responses_of, streams}, declared.class.Class.{Class}}
use Rattle.nntp_theory.specs.{Conflict.{placed_from, placed_of}, Reading.{Judged, Accepted, accepted_of, accepted_with, IsJudged, AreJudged}}
use Rattle.nntp_theory.proofs.Reading.{JudgedSession.{accepted_one_more}, JudgedAnswers.{accepted_behind as all_behind, judged_push, judged_count}}
use Rattle.nntp_theory.proofs.Reading.JudgedAnswers.{accepted_few}
use Rattle.nntp_facts.specs.{declared.{standing.Standing.{Standing}, placed.Placed.{Placed as Cited}}, Standing.{standing, standing_from, standing_after}}
use Rattle.nntp_facts.{specs.Standing.{stands_of}, proofs.Reading.Standings.{name_after, position_next}}
use Rattle.nntp_several.specs.{Conflict.{placed_of_all}, Reading.{ReadSession}}
use Rattle.nntp_printing.specs.{Title.{title_line}, BadAnswer.{bad_lines}}
use Rattle.nntp_explain.specs.{Explaining.{front_lines, place_lines, IsTold, IsExplained, AreExplained, count_bad, counts_behind}, Inner.ExplainingView.{Kept}}
use Rattle.nntp_explain.specs.{Inner.ExplainingView.{TellsBad, title_of, untold, title_told, accepted_behind}, Reasons.{answer_at, rest_line}, Standing.{cited}}
use Rattle.nntp_explain.specs.Standing.{cited_at, cited_from, cited_each, number_behind, cited_of_all}
use Rattle.nntp_wire.specs.Session.{ClientStream}

-- ---- as they are judged, whatever decides which exchanges stand

module _ (Stand : List Paired → Type 0) (client : ClientStream) (server : List ℕ) (answers : List Judged) (left : Unpaired) (judged : AreJudged Stand [] (streams client server) answers left) where
  -- one answer more
  pub one_more_behind : (answer : Judged) (after : Unpaired) → IsJudged Stand (accepted_of answers) left answer after → AreJudged Stand [] (streams client server) (answers ++ answer ∷ []) after
  one_more_behind answer after is = search (judged_push, all_behind)

  -- the index counts them
  pub index_behind : left.index ≡ length answers
  index_behind = let count = judged_count Stand [] (streams client server) left answers judged in omega (arith, count)

-- the accepted ones are no more than all
pub few_accepted : (answers : List Judged) → length (accepted_of answers) ≤ length answers
few_accepted answers = grind (arith, accepted_few [] answers, all_behind [] answers)

-- an accepted one adds nothing that is bad
pub good_push : (answers : List Judged) (pair : Paired) → count_bad (answers ++ Accepted pair ∷ []) ≡ count_bad answers
good_push answers pair = grind (arith, accepted_one_more, length-append, few_accepted)

-- any other is bad
pub bad_push : (answers : List Judged) (answer : Judged) → accepted_with (accepted_of answers) answer ≡ accepted_of answers → count_bad (answers ++ answer ∷ []) ≡ count_bad answers + 1
bad_push answers answer same = grind (arith, accepted_one_more, length-append, few_accepted)

-- those that are counted are those that were accepted, and the bad ones
pub all_counted : (answers : List Judged) (left : Unpaired) (ending : Ending)
    → (counts_behind answers left ending).answers ≡ length (accepted_of answers) + (counts_behind answers left ending).bad
all_counted answers left ending = grind (arith, few_accepted)

-- those of one session more that was read
pub behind_push : (earlier : List (List Paired)) (readings : List ReadSession) (read : ReadSession)
    → accepted_behind earlier (readings ++ read ∷ []) ≡ accepted_behind earlier readings ++ accepted_of read.answers ∷ []
behind_push earlier [] read = refl
behind_push earlier (first ∷ readings) read = behind_push (earlier ++ accepted_of first.answers ∷ []) readings read

-- ---- as they are cited

cited_count : (session : ℕ) (s : Standing) (pairs : List Paired) → length (cited_from session s pairs) ≡ length pairs
cited_count session s [] = refl
cited_count session s (pair ∷ pairs) = let rest = cited_count session (standing_after s pair) pairs in omega (arith, rest)

-- as many as there are
pub cited_in_all : (earlier : List (List Paired)) (past : List Paired) → length (cited_of_all earlier past) ≡ length (cited_each 1 earlier) + length past
cited_in_all earlier past = search (length-append, cited_count)

-- each stands where it does by the answers of its session
cited_stand : (session : ℕ) (s : Standing) (v : Visible) (pairs : List Paired) → s.selected ≡ v.selected
    → map stands_of (cited_from session s pairs) ≡ placed_from v s.position (asked_of pairs) (responses_of pairs)
cited_stand session s v [] name = refl
cited_stand session s v (pair ∷ pairs) name =
    let next = visible_after v (asked_at pair.place) pair.response in
    let rest = cited_stand session (standing_after s pair) next pairs (name_after pair s v name)
    ∙ ap (λ at. placed_from next at (asked_of pairs) (responses_of pairs)) (position_next pair s) in
    λ i. record { selected = name i; position = s.position; asked = asked_at pair.place; response = pair.response } ∷ rest i

each_stand : (session : ℕ) (earlier : List (List Paired)) → map stands_of (cited_each session earlier) ≡ flat_map placed_of earlier
each_stand session [] = refl
each_stand session (pairs ∷ earlier) = grind (arith, map-append, cited_stand, each_stand (session + 1) earlier)

pub all_stand : (earlier : List (List Paired)) (past : List Paired) → map stands_of (cited_of_all earlier past) ≡ placed_of_all earlier past
all_stand earlier past = grind (arith, map-append, each_stand, cited_stand)

-- one answer more is cited where those before it left the session
cited_push : (session : ℕ) (s : Standing) (pairs : List Paired) (pair : Paired)
    → cited_from session s (pairs ++ pair ∷ []) ≡ cited_from session s pairs ++ cited_at session (standing_from s pairs) pair ∷ []
cited_push session s [] pair = refl
cited_push session s (first ∷ pairs) pair = ap (λ rest. cited_at session s first ∷ rest) (cited_push session (standing_after s first) pairs pair)

pub cited_next : (earlier : List (List Paired)) (past : List Paired) (pair : Paired)
    → cited_of_all earlier (past ++ pair ∷ []) ≡ cited_of_all earlier past ++ cited_at (number_behind earlier) (standing past) pair ∷ []
cited_next earlier past pair = search (cited_push, append_assoc)

-- and one session more
each_push : (session : ℕ) (earlier : List (List Paired)) (pairs : List Paired) → cited_each session (earlier ++ pairs ∷ []) ≡ cited_each session earlier ++ cited (session + length earlier) pairs
each_push session [] pairs = let same : session ≡ session + length {A = List Paired} [] = omega arith in append-nil (cited session pairs) ∙ ap (λ n. cited n pairs) same
each_push session (first ∷ earlier) pairs = grind (arith, append_assoc, each_push (session + 1) earlier pairs)

pub cited_with : (earlier : List (List Paired)) (past : List Paired) → cited_of_all earlier past ≡ cited_each 1 (earlier ++ past ∷ [])
cited_with earlier past = grind (arith, each_push)

-- ---- as they are told

-- what is told of one answer more stands behind what is told of those before it
pub explained_push : (profile : Profile) (earlier : List (List Paired)) (before : ℕ) (past answers : List Judged) (answer : Judged) (text more : List ℕ)
    → AreExplained profile earlier before past answers text → IsExplained profile earlier before (past ++ answers) answer more
    → AreExplained profile earlier before past (answers ++ answer ∷ []) (text ++ more)
explained_push profile earlier before past [] answer text more none is =
    (more, [], ap (λ t. t ++ more) none ∙ sym (append-nil more), subst (λ p. IsExplained profile earlier before p answer more) (append-nil past) is, refl)
explained_push profile earlier before past (first ∷ answers) answer text more (front, back, whole, head, tail) is =
    grind (arith, append_assoc, explained_push profile earlier before (past ++ first ∷ []) answers answer back more tail)

-- the title stands before what is told of the first bad answer, and so the text goes on
pub text_grows : (number : ℕ) (title : Option (List ℕ)) (bad : ℕ) (start told line more text : List ℕ) → (bad ≡ 0 → told ≡ [])
    → text ≡ start ++ title_told number title bad ++ told → line ≡ option_map_or (title_line number) (untold title bad) []
    → (text ++ line) ++ more ≡ start ++ title_told number title (bad + 1) ++ (told ++ more)
text_grows number title bad start told line more text silent text-is line-is = grind (arith, append_assoc, append-nil)

-- the lines of a bad answer are some
pub bad_long : (index : ℕ) (class : Class) (line : Option (List ℕ)) (initial : List ℕ) → 1 ≤ length (bad_lines index class line initial)
bad_long index class line initial = omega arith

-- so there are no more bad answers than octets of the text, with one more of both
pub few_more : (before : ℕ) (stands : Standing) (index : ℕ) (class : Class) (line : Option (List ℕ)) (initial : List ℕ) (Reason : List ℕ → Type 0) (text title more : List ℕ)
    → IsTold before stands index class line initial Reason more → before ≤ length text → before + 1 ≤ length ((text ++ title) ++ more)
few_more before stands index class line initial Reason text title more (reason, whole, is) few = grind (arith, bad_long, length-append)

joined : (old front place reason mid new : List ℕ) → mid ≡ old ++ front ++ place → new ≡ mid ++ reason → new ≡ old ++ (front ++ place ++ reason)
joined old front place reason mid new mid-is new-is = grind (arith, append_assoc)

module _ (k : Kept) (old : List ℕ) (index : ℕ) (class : Class) (line : Option (List ℕ)) (initial : List ℕ) (Reason : List ℕ → Type 0)
    {i : ℕ} {kind : Class} {l : Option (List ℕ)} {first mid : List ℕ} {is_told : Bool}
    (told-is : is_told ≡ nat_lt k.bad 100) (mid-is : mid ≡ (old ++ title_of k) ++ front_lines i kind l first ++ place_lines k.bad k.stands)
    (index-is : i ≡ index) (class-is : kind ≡ class) (line-is : l ≡ line) (initial-is : first ≡ initial) where
  -- behind its lines stands a reason
  pub with_reason : (reason : List ℕ) {new : List ℕ} → is_told ≡ true → new ≡ mid ++ reason → Reason reason → TellsBad k index class line initial Reason old new
  with_reason reason told new-is is =
      let lines = ap (λ (q : ℕ × Class × Option (List ℕ) × List ℕ). (old ++ title_of k) ++ front_lines q.0 q.1 q.2 q.3 ++ place_lines k.bad k.stands)
      (λ j. (index-is j, class-is j, line-is j, initial-is j)) in (
        front_lines index class line initial ++ place_lines k.bad k.stands ++ reason,
        joined (old ++ title_of k) (front_lines index class line initial) (place_lines k.bad k.stands) reason _ _ (mid-is ∙ lines) new-is,
        (reason, refl, subst (λ b. cond b (Reason reason) (reason ≡ [])) (sym told ∙ told-is) is),
      )

  -- or none
  pub without_reason : is_told ≡ false → TellsBad k index class line initial Reason old mid
  without_reason untold = grind (arith, append-nil)

-- the line of further reasons
pub rest_told : (here : ℕ) (answers : List Cited) (rest : Option ℕ) (bound place : ℕ) (old mid new whole : List ℕ) → rest ≡ Some bound → place ≡ bound - 1
    → mid ≡ old ++ codes "because some of " ++ answer_at here answers 0 → new ≡ mid ++ codes " to " ++ answer_at here answers place → whole ≡ new ++ 10 ∷ []
    → whole ≡ old ++ rest_line here answers rest
rest_told here answers rest bound place old mid new whole is place-is mid-is new-is whole-is = grind (arith, append_assoc)
