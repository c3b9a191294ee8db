-- How an explanation goes through the answers of two streams, behind those of earlier sessions.
use Rattle.std.proofs.Common.{◌≡◌, ◌≢◌, ◌∙◌, sym, subst, refl, ap, ℕ, ◌+◌, ◌≤◌, List, [], ◌∷◌, ◌++◌, Option, Some, MatchOption, length, map, drop, arith}
use Rattle.std.{proofs.{Common.{add-one, Result, append-nil, append_assoc, length-append, Bool}, lemmas.List.{drop_at}}, specs.Prelude.{IfOk}}
use Rattle.std.specs.{List.{AllByRecursion}, Option.{option_map_or}}
use Rattle.nntp_wire.specs.{Answer.{Asked}, declared.misspelling.Misspelling.{Misspelling, TheVariants.{WrongBlock}}, Misspelling.{misspelling}}
use Rattle.nntp_wire.specs.Session.{ClientStream}
use Rattle.nntp_article.specs.{declared.session.profile.Profile.{Profile}, Session.{Machine.{Visible}, Misfit.{misfit}}}
use Rattle.nntp_pair.specs.{Pairing.{Paired, Unpaired, IsNext, IsPassedOver, asked_at, streams, Place}, declared.class.Class.{Class, TheVariants.{Malformed}}}
use Rattle.nntp_pair.{specs.declared.class.Class.TheVariants.{OutOfPlace, Contradiction}, proofs.PassedLemmas.{passed-reason}}
use Rattle.nntp_theory.specs.{Conflict.{Placed, placed_behind, SomeHas, told_with, below}, Inner.{Conflict.{FitsThere}, Exchanged.{said_behind}}}
use Rattle.nntp_theory.specs.{Permitted.{ArePermittedBehind}, Reading.{Judged, Accepted, Refused, Unspelled, accepted_of, accepted_with, class_behind}}
use Rattle.nntp_theory.{specs.{Reading.{IsJudged}, declared.noted.Noted.{Noted}}, proofs.Members.{all_at, all_both, all_from, in_contains}}
use Rattle.nntp_theory.proofs.Reading.{JudgedSession.{accepted_one_more}, JudgedAnswers.{accepted_behind as all_behind, accepted_few, visible_behind}}
use Rattle.nntp_theory.proofs.Reading.JudgedAnswers.{accepted_open}
use Rattle.nntp_facts.specs.{Inner.Noted.{FactsKept, HasNotedBehind, IsNotedBehind, IsDue, profile_kept}, declared.standing.Standing.{Standing}}
use Rattle.nntp_facts.specs.{declared.placed.Placed.{Placed as Cited}, Standing.{nowhere, standing, standing_after, stands_of}}
use Rattle.nntp_facts.proofs.Reading.{NotedAsJudged.{unfit_refused, contradiction_refused}, Standings.{standing_push, stands_behind}}
use Rattle.nntp_facts.proofs.Keeping.RefusedAnswers.{held_refused}
use Rattle.nntp_said.specs.Facts.{Fact}
use Rattle.nntp_several.{specs.Conflict.{placed_of_all}, proofs.ConflictsOfSessions.{accepted_fit_behind, noted_conflicts_behind}}
use Rattle.nntp_printing.specs.Title.{title_line}
use Rattle.nntp_explain.specs.Explaining.{IsTold, IsConflictOf, IsReason, IsExplained, AreExplained, count_bad, bad_behind, IsContradiction, WasRefused}
use Rattle.nntp_explain.specs.{Explaining.{are_looked_for}, Inner.{Explaining.{ToldContradiction}, ExplainingView.{AddsReason, HasReason, IsRefused}}}
use Rattle.nntp_explain.specs.Inner.ExplainingView.{TellsNext, TellsBad, Kept, Before, begins, cited_here, placed_here, keeps, refuses, title_of, title_told}
use Rattle.nntp_explain.specs.Inner.ExplainingView.{untold, unfitting_told, unspelled_lines, AreKept, AreReasons, AreTold, Contradicts, Fits}
use Rattle.nntp_explain.specs.{Reasons.{unfitting_lines, misspelling_line}, Standing.{cited, number_behind, cited_of_all}}
use Rattle.nntp_explain.proofs.SessionAnswers.{one_more_behind, index_behind, all_stand, cited_next, text_grows, explained_push, good_push, bad_push, few_more}
use Rattle.nntp_explain.proofs.ContradictionReasons.{reason_still}
use Rattle.nntp_theory.specs.declared.noted.Noted.TheVariants as kinds

-- what is so where there is no error
pub if_both : {T E : Type 0} {P Q R : T → Type 0} (r : Result T E) → IfOk r P → IfOk r Q → ((v : T) → P v → Q v → R v) → IfOk r R
if_both r p q f = grind arith

-- a session begins behind sessions that were read whole, and nothing is told of it yet
pub begun_told : {profile : Profile} {earlier : List (List Paired)} {kept new : Kept} {title : Option (List ℕ)} {text after : List ℕ} {client : ClientStream} {server : List ℕ}
    → AreKept profile earlier kept → kept.bad ≤ length text → new ≡ begins title kept → after ≡ text
    → AreTold profile (record { earlier = earlier; bad = kept.bad; text = text; title = title }) client server new after (streams client server)
begun_told k few new-is after-is = grind (arith, append-nil)

-- an answer that was refused was so behind one answer more
still : (answers : List Judged) (answer : Judged) (bad : Placed) → WasRefused answers bad → WasRefused (answers ++ answer ∷ []) bad
still answers answer bad (front, pair, back, whole, same) =
    (front, pair, back ++ answer ∷ [], ap (λ all. all ++ answer ∷ []) whole ∙ append_assoc front (Refused pair ∷ back) (answer ∷ []), same)

refused_still : (answers : List Judged) (answer : Judged) (contradictions : List ToldContradiction)
    → AllByRecursion (λ c. WasRefused answers c.bad) contradictions → AllByRecursion (λ c. WasRefused (answers ++ answer ∷ []) c.bad) contradictions
refused_still answers answer contradictions all = grind (arith, all_from, still, all_at)

-- and one that is refused now was then
refused_after : (answers : List Judged) (pair : Paired) (bad : Placed) (old new : List ToldContradiction) → placed_behind (accepted_of answers) pair ≡ bad
    → AllByRecursion (λ c. WasRefused answers c.bad) old → AddsReason bad old new → AllByRecursion (λ c. WasRefused (answers ++ Refused pair ∷ []) c.bad) new
refused_after answers pair bad old new placed all adds =
    let Was = λ (c : ToldContradiction). WasRefused (answers ++ Refused pair ∷ []) c.bad in
    let before = refused_still answers (Refused pair) old all in
    grind (arith, all_both)

-- the reason of a contradiction, by what follows from that one was told before
told_before : (looked_for : Bool) (P Q : Type 0) (here : ℕ) (profile : Profile) (facts : List Fact) (bad : Placed) (answers : List Cited) (text : List ℕ) → (P → Q)
    → IsContradiction looked_for P here profile facts bad answers text → IsContradiction looked_for Q here profile facts bad answers text
told_before looked_for P Q here profile facts bad answers text f is = grind arith

-- what is told of a frame that spells nothing explains it, since there is a reason
unspelled_explained : (before : ℕ) (stands : Standing) (index : ℕ) (line : Option (List ℕ)) (initial : List ℕ) (o : Option Misspelling) (text : List ℕ) → MatchOption o ⊥ (λ why. why ≢ WrongBlock)
    → IsTold before stands index Malformed line initial (λ reason. reason ≡ option_map_or misspelling_line o []) text
    → MatchOption o ⊥ (λ why. IsTold before stands index Malformed line initial (λ reason. reason ≡ misspelling_line why) text)
unspelled_explained before stands index line initial o text some is = grind arith

-- what is told of an answer that is refused explains it, by its class
refused_explained : (profile : Profile) (earlier : List (List Paired)) (before : ℕ) (past : List Judged) (pair : Paired) (class : Class) (Reason : List ℕ → Type 0) (text : List ℕ)
    → class_behind profile (accepted_of past) (Refused pair) ≡ Some class
    → ((reason : List ℕ) → Reason reason → IsReason profile earlier (bad_behind before past pair.index) past pair class reason)
    → IsTold (bad_behind before past pair.index) (standing (accepted_of past)) pair.index class pair.place.line pair.initial Reason text → IsExplained profile earlier before past (Refused pair) text
refused_explained profile earlier before past pair class Reason text class-is explains is = grind arith

-- what is noted of an exchange behind others, whatever they are
abbrev pub Notes : Paired → FactsKept → FactsKept → Noted → Type 0
Notes pair old new noted = (profile : Profile) (earlier : List (List Paired)) (past : List Paired) → HasNotedBehind profile old earlier past → IsNotedBehind profile earlier past pair old new noted

module _ {profile : Profile} {b : Before} {client : ClientStream} {server : List ℕ} {kept : Kept} {text : List ℕ} {left : Unpaired} (t : AreTold profile b client server kept text left) where
  -- the answers of its session are behind those of others
  pub others_accepted : kept.others ≤ length kept.accepted
  others_accepted = grind (arith, length-append)

  -- these are its own
  pub own_accepted : drop kept.others kept.accepted ≡ cited (number_behind b.earlier) (accepted_of t.answers)
  own_accepted = grind (arith, drop_at)

  -- the title that is still to be told
  pub title_left : title_of kept ≡ option_map_or (title_line (number_behind b.earlier)) (untold b.title (count_bad t.answers)) []
  title_left = ap (λ (q : ℕ × Option (List ℕ)). option_map_or (title_line q.0) q.1 []) (λ i. (t.session_is i, t.title_is i))

  -- an answer that is bad is passed over, where what is told of it explains it
  told_bad : {new : Kept} {after : List ℕ} {behind : Unpaired} (answer : Judged) (contradictions : List ToldContradiction) (index : ℕ) (class : Class) (line : Option (List ℕ)) (initial : List ℕ)
      (Reason : List ℕ → Type 0) → new ≡ record (refuses kept) { contradictions = contradictions } → TellsBad kept index class line initial Reason text after
      → index ≡ left.index → IsJudged (ArePermittedBehind profile b.earlier) (accepted_of t.answers) left answer behind → accepted_with (accepted_of t.answers) answer ≡ accepted_of t.answers
      → ((more : List ℕ) → IsTold (bad_behind b.bad t.answers index) (standing (accepted_of t.answers)) index class line initial Reason more
      → IsExplained profile b.earlier b.bad t.answers answer more)
      → AreReasons profile kept contradictions → AllByRecursion (λ c. WasRefused (t.answers ++ answer ∷ []) c.bad) contradictions
      → AreTold profile b client server new after behind
  told_bad {behind = behind} answer contradictions index class line initial Reason new-is (more, after-is, is) at judged same explains reasons refused =
      let past = accepted_of t.answers in
      let accepted = accepted_one_more t.answers answer ∙ same in
      let number = number_behind b.earlier in
      let n = count_bad t.answers in
      let count : count_bad (t.answers ++ answer ∷ []) ≡ n + 1 = bad_push t.answers answer same in
      let counted = index_behind (ArePermittedBehind profile b.earlier) client server t.answers left t.judged in
      let before = t.bad_are in
      let bad : kept.bad ≡ bad_behind b.bad t.answers index = omega (arith, at, counted, before) in
      let told = subst (λ (q : ℕ × Standing). IsTold q.0 q.1 index class line initial Reason more) (λ i. (bad i, t.stands_there i)) is in
      subst (λ (q : Kept × List ℕ). AreTold profile b client server q.0 q.1 behind) (λ i. (sym new-is i, sym after-is i)) (record {
        answers = t.answers ++ answer ∷ [];
        judged = one_more_behind (ArePermittedBehind profile b.earlier) client server t.answers left t.judged answer behind judged;
        noted = subst (HasNotedBehind profile kept.facts b.earlier) (sym accepted) t.noted;
        accepted_are = t.accepted_are ∙ ap (cited_of_all b.earlier) (sym accepted);
        session_is = t.session_is;
        others_are = t.others_are;
        title_is = ap (untold b.title) (sym (add-one n) ∙ sym count);
        stands_there = t.stands_there ∙ ap standing (sym accepted);
        reasons = reasons;
        refused = refused;
        bad_are = omega (arith, before, count);
        few = few_more kept.bad kept.stands index class line initial Reason text (title_of kept) more is t.few;
        told = t.told ++ more;
        explained = explained_push profile b.earlier b.bad [] t.answers answer t.told more t.explained (explains more told);
        silent = λ none. absurd (omega (arith, count, none));
        text_is = text_grows number b.title n b.text t.told (title_of kept) more text t.silent t.text_is title_left
            ∙ ap (λ n. b.text ++ title_told number b.title n ++ (t.told ++ more)) (sym count);
      })

  -- a frame that spells nothing
  pub told_unspelled : {new : Kept} {after : List ℕ} {behind : Unpaired} {index : ℕ} {asked : Asked} {place : Place} {initial : List ℕ} {block : Option (List ℕ)} → new ≡ refuses kept
      → TellsBad kept index Malformed place.line initial (λ reason. reason ≡ unspelled_lines asked initial block) text after
      → asked ≡ asked_at place → index ≡ left.index → IsPassedOver left place initial block behind → AreTold profile b client server new after behind
  told_unspelled {after = after} {behind = behind} {index = index} {place = place} {initial = initial} {block = block} new-is tells asked-is at passed =
      let Reason = λ (asked : Asked) (reason : List ℕ). reason ≡ unspelled_lines asked initial block in
      told_bad (Unspelled index place initial block) kept.contradictions index Malformed place.line initial (Reason (asked_at place)) new-is
      (subst (λ asked. TellsBad kept index Malformed place.line initial (Reason asked) text after) asked-is tells) at (at, passed) refl
      (λ more told. unspelled_explained (bad_behind b.bad t.answers index) (standing (accepted_of t.answers)) index place.line initial (misspelling (asked_at place) initial block) more
      (passed-reason left behind place initial block passed) told)
      t.reasons (refused_still t.answers (Unspelled index place initial block) kept.contradictions t.refused)

  module _ {behind : Unpaired} {pair : Paired} (next : IsNext left pair behind) where
    -- the next exchange is due
    pub told_due : IsDue kept.facts pair
    told_due = grind (arith, index_behind, accepted_few, all_behind, visible_behind, accepted_open)

    -- it stands where it does by the answers of its session
    there : placed_here kept pair ≡ placed_behind (accepted_of t.answers) pair
    there = stands_behind (cited_here kept pair) (accepted_of t.answers) t.stands_there

    -- where it isn't accepted, the facts are as they were
    pub unchanged : (facts : FactsKept) {noted : Noted} (kind : Noted) → ((past : List Paired) → IsNotedBehind profile b.earlier past pair kept.facts facts kind → facts ≡ kept.facts)
        → noted ≡ kind → Notes pair kept.facts facts noted → AreTold profile b client server (record kept { facts = facts }) text left × Notes pair facts facts kind
    unchanged facts kind stay is notes =
        let past = accepted_of t.answers in
        let same = stay past (subst (IsNotedBehind profile b.earlier past pair kept.facts facts) is (notes profile b.earlier past t.noted)) in
        subst (λ f. AreTold profile b client server (record kept { facts = f }) text left × Notes pair f f kind) (sym same)
        (t, subst (λ (q : FactsKept × Noted). Notes pair kept.facts q.0 q.1) (λ i. (same i, is i)) notes)

    -- an exchange that some spool permits
    pub told_good : (facts : FactsKept) {new : Kept} {after : List ℕ} {noted : Noted} → noted ≡ kinds.Consistent → Notes pair kept.facts facts noted
        → new ≡ keeps pair (record kept { facts = facts }) → after ≡ text → AreTold profile b client server new after behind
    told_good facts is notes new-is after-is =
        let past = accepted_of t.answers in
        let noted = subst (IsNotedBehind profile b.earlier past pair kept.facts facts) is (notes profile b.earlier past t.noted) in
        let accepted = accepted_one_more t.answers (Accepted pair) in
        let count = good_push t.answers pair in
        let cited = cited_here kept pair in
        subst (λ (q : Kept × List ℕ). AreTold profile b client server q.0 q.1 behind) (λ i. (sym new-is i, sym after-is i)) (record {
          answers = t.answers ++ Accepted pair ∷ [];
          judged = one_more_behind (ArePermittedBehind profile b.earlier) client server t.answers left t.judged (Accepted pair) behind (next, noted.0);
          noted = subst (HasNotedBehind profile facts b.earlier) (sym accepted) noted.1;
          accepted_are = grind (arith, cited_next);
          session_is = t.session_is;
          others_are = t.others_are;
          title_is = t.title_is ∙ ap (untold b.title) (sym count);
          stands_there = ap (λ s. standing_after s pair) t.stands_there ∙ sym (standing_push nowhere past pair) ∙ ap standing (sym accepted);
          reasons = all_from _ kept.contradictions (λ told i. reason_still kept.session profile told.bad kept.accepted (cited ∷ []) told.reason
              (all_at (λ (told : ToldContradiction). IsConflictOf kept.session profile told.bad kept.accepted told.reason) told kept.contradictions t.reasons i));
          refused = refused_still t.answers (Accepted pair) kept.contradictions t.refused;
          bad_are = t.bad_are ∙ ap (λ n. b.bad + n) (sym count);
          few = t.few;
          told = t.told;
          explained = subst (AreExplained profile b.earlier b.bad [] (t.answers ++ Accepted pair ∷ [])) (append-nil t.told)
              (explained_push profile b.earlier b.bad [] t.answers (Accepted pair) t.told [] t.explained refl);
          silent = λ none. t.silent (sym count ∙ none);
          text_is = t.text_is ∙ ap (λ n. b.text ++ title_told (number_behind b.earlier) b.title n ++ t.told) (sym count);
        })

    -- an exchange that is refused, by the class of its answer
    told_refused : {new : Kept} {after : List ℕ} (contradictions : List ToldContradiction) (class : Class) (Reason : List ℕ → Type 0) → new ≡ record (refuses kept) { contradictions = contradictions }
        → TellsBad kept pair.index class pair.place.line pair.initial Reason text after
        → IsJudged (ArePermittedBehind profile b.earlier) (accepted_of t.answers) left (Refused pair) behind × (class_behind profile (accepted_of t.answers) (Refused pair) ≡ Some class)
        → ((reason : List ℕ) → Reason reason → IsReason profile b.earlier (bad_behind b.bad t.answers pair.index) t.answers pair class reason)
        → AreReasons profile kept contradictions → AllByRecursion (λ c. WasRefused (t.answers ++ Refused pair ∷ []) c.bad) contradictions → AreTold profile b client server new after behind
    told_refused contradictions class Reason new-is tells judged explains reasons refused =
        told_bad (Refused pair) contradictions pair.index class pair.place.line pair.initial Reason new-is tells next.index judged.0 refl
        (λ more told. refused_explained profile b.earlier b.bad t.answers pair class Reason more judged.1 explains told) reasons refused

    -- an exchange that doesn't fit
    pub told_unfitting : {new : Kept} {after : List ℕ} → Notes pair kept.facts kept.facts kinds.OutOfPlace → new ≡ refuses kept
        → TellsBad kept pair.index OutOfPlace pair.place.line pair.initial (λ reason. reason ≡ unfitting_told kept pair) text after → AreTold profile b client server new after behind
    told_unfitting notes new-is tells =
        told_refused kept.contradictions OutOfPlace (λ reason. reason ≡ unfitting_told kept pair) new-is tells
        (unfit_refused profile b.earlier (accepted_of t.answers) pair kept.facts kept.facts left behind t.noted (notes profile b.earlier _ t.noted) next)
        (λ reason is. is ∙ ap (λ (q : Profile × Visible × ℕ × List Cited). option_map_or (unfitting_lines q.2 q.3 pair.response) (misfit q.0 q.1 (asked_at pair.place) pair.response) [])
        (λ i. (t.noted.profile_is i, t.noted.visible i, t.session_is i, own_accepted i)))
        t.reasons (refused_still t.answers (Refused pair) kept.contradictions t.refused)

    -- an exchange that contradicts those that were accepted
    pub told_contradiction : {new : Kept} {after : List ℕ} (contradictions : List ToldContradiction) → Notes pair kept.facts kept.facts kinds.Contradiction
        → new ≡ record (refuses kept) { contradictions = contradictions } → AreReasons (profile_kept kept.facts) kept contradictions
        → AddsReason (placed_here kept pair) kept.contradictions contradictions
        → ((said : List Fact) → IsRefused kept said (placed_here kept pair)
        → TellsBad kept pair.index Contradiction pair.place.line pair.initial (TellsNext kept said (placed_here kept pair)) text after)
        → AreTold profile b client server new after behind
    told_contradiction contradictions notes new-is reasons adds tells =
        let past = accepted_of t.answers in
        let bad = placed_here kept pair in
        let said = said_behind profile.marks b.earlier past in
        let noted = notes profile b.earlier past t.noted in
        let due = told_due in
        let same = there in
        let refused : IsRefused kept said bad = λ few. grind (arith, held_refused) in
        let before : kept.bad ≡ bad_behind b.bad t.answers pair.index = grind (arith, index_behind (ArePermittedBehind profile b.earlier) client server t.answers left t.judged, next.index) in
        let told : HasReason kept bad → WasRefused t.answers bad =
        λ h. all_at (λ (c : ToldContradiction). WasRefused t.answers c.bad) (record { bad = bad; reason = h.0 }) kept.contradictions t.refused (in_contains _ kept.contradictions h.1) in
        told_refused contradictions Contradiction (TellsNext kept said bad) new-is (tells said refused)
        (contradiction_refused profile b.earlier past pair kept.facts kept.facts left behind t.noted noted next)
        (λ reason is. subst (λ (q : ℕ × ℕ × Profile × Placed × List Cited).
        IsContradiction (are_looked_for q.0 (length q.4)) (WasRefused t.answers q.3) q.1 q.2 said q.3 q.4 reason)
        (λ i. (before i, t.session_is i, t.noted.profile_is i, same i, t.accepted_are i)) (search told_before))
        (subst (λ profile. AreReasons profile kept contradictions) t.noted.profile_is reasons) (refused_after t.answers pair bad kept.contradictions contradictions (sym same) t.refused adds)

    -- what the search for its reasons asks for
    pub contradiction_due : Notes pair kept.facts kept.facts kinds.Contradiction
        → Fits kept (placed_here kept pair) × Contradicts kept (placed_here kept pair) × AreReasons (profile_kept kept.facts) kept kept.contradictions
    contradiction_due notes =
        let past = accepted_of t.answers in
        let conflicts = noted_conflicts_behind profile kept.facts b.earlier past pair t.noted told_due (notes profile b.earlier past t.noted) in
        let all : map stands_of kept.accepted ≡ placed_of_all b.earlier past = ap (map stands_of) t.accepted_are ∙ all_stand b.earlier past in
        subst (λ (q : Profile × Placed × List Placed). AllByRecursion (FitsThere q.0) (q.1 ∷ q.2) × (SomeHas q.0 (told_with q.0 q.1 q.2 (below (length q.2))) → ⊥)
        × AreReasons q.0 kept kept.contradictions)
        (λ i. (sym t.noted.profile_is i, sym there i, sym all i)) ((conflicts.0, accepted_fit_behind profile kept.facts b.earlier past t.noted), conflicts.1, t.reasons)
