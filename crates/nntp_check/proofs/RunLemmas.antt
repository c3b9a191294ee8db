-- What a run writes, and reports on streams that are borrowed.
use Rattle.std.proofs.Common.{◌≡◌, ◌<◌, ◌⊎◌, ◌∙◌, arith, inl, inr, refl, sym, subst, get_or, ℕ, Bool, List, [], Option, None, Some, Result, length, slice_get}
use Rattle.std.proofs.{Common.{take}, lemmas.{List.{append-nil, length-map}, Option.{slice_get-get_or, slice_get-map, slice_get_within}}}
use Rattle.std.specs.{Prelude.{MatchOption, Vec, unwrap_or}, Io.KnownBytes.{Appends, Keeps}}
use Rattle.nntp_wire.specs.{Inner.Held.{held as names_in}, declared.{limit.Limit.{Limit}, marks.Marks.{Marks}, overviews.Overviews.{Overviews}}}
use Rattle.nntp_store.specs.{Writing.{Wrote}, Inner.Writing.{Writes}}
use Rattle.nntp_article.specs.{Session.Spool.{Spool}, declared.session.profile.Profile.{Profile}}
use Rattle.nntp_spool.specs.Sessions.{RefusesAt}
use Rattle.nntp_several.specs.{Sessions.{ExplainsEach, Named, Recorded, unnamed}, Verifying.{VerifiedOfAll, IsVerifiedOfAll, PermitsAll, RefusesOne}}
use Rattle.nntp_check.specs.{Capture.{Held, sessions_of, Captured}, Inner.{Collecting.{IsUnverified, VerifiesHeld}, Report.{IsVerifiedWithin, IsWithin}}}
use Rattle.nntp_check.specs.{Inner.Faults.{of_error}, Report.{is_permitted, verified_report, names_of}, Run.{IsVerifyFault, VerifyReports, Input, Output}}
use Rattle.nntp_check.specs.{Run.{ReadsCapture, ReadsFrontBut, IsCutShort, IsFaultOf}, declared.run_fault.RunFault.{RunFault}}
use Rattle.nntp_verdict.specs.{Judging.{IsVerdictOfAll, StopsAt}, Verdict.{JudgementOfAll, consistent_of_all, bad_of_all}}
use Rattle.nntp_pair.specs.declared.pair_error.PairError.{PairError}
use Rattle.nntp_pair.specs.declared.pair_error.PairError.TheVariants as errors
use Rattle.nntp_check.specs.declared.run_fault.RunFault.TheVariants as faults

pub wrote-all : (old new : Option (List ℕ)) (octets lent : List ℕ) → lent ≡ octets → Wrote old new lent [] → Appends old new octets
wrote-all old new octets lent is w = subst (λ (front : List ℕ). Appends old new front) (sym (append-nil w.0) ∙ sym w.1 ∙ is) w.2

-- a flush behind all of the octets
Keeps-appends : (a b : Option (List ℕ)) → Keeps a b → Appends a b []
Keeps-appends a b kept = grind (arith, append-nil)

pub Wrote-kept : (a b c : Option (List ℕ)) (octets : List ℕ) → Wrote a b octets [] → Keeps b c → Wrote a c octets []
Wrote-kept a b c octets wrote kept = grind (arith, Keeps-appends)

pub Writes-kept : {A E : Type 0} (r : Result A E) (a b c : Option (List ℕ)) (octets : List ℕ) → Wrote a b octets [] → Keeps b c → Writes r a c octets
Writes-kept r a b c octets wrote kept = grind (arith, Keeps-appends)

-- a name among others
pub named-there : {A : Type 0} (names : List (Vec ℕ A)) (j : ℕ) (name : Vec ℕ A) → j < length names → name ≡ get_or names j name → unwrap_or (slice_get (names_in names) j) [] ≡ name.items
named-there names j name within is = grind (arith, slice_get-map, slice_get-get_or)

-- the bad answer of a verdict is of one of the sessions
pub verdict-within : (limit : Limit) (marks : Marks) (sessions : List Named) (judgement : JudgementOfAll) → IsVerdictOfAll limit marks (unnamed sessions) judgement
    → IsWithin (length (names_of sessions)) judgement
verdict-within limit marks sessions (consistent_of_all L answers) verdict = tt
verdict-within limit marks sessions (bad_of_all j k class command reply) verdict = by (slice_get (unnamed sessions) j) refl verdict.place
  where
    by : (o : Option Recorded) → slice_get (unnamed sessions) j ≡ o → MatchOption o ⊥ (λ s. StopsAt s.client s.server k class command reply) → j < length (names_of sessions)
    by None e p = absurd p
    by (Some s) e p = grind (arith, length-map, slice_get_within (unnamed sessions) j s e)

-- a report of which the writer took a front is cut short
pub cut-short : (Reports : Captured → List ℕ → Bool → Type 0) (input : Input) (old new : Option (List ℕ)) (captured : Captured) (text lent left : List ℕ) (answer : Bool)
    → ReadsCapture input captured → Reports captured text answer → lent ≡ text → Wrote old new lent left
    → IsCutShort Reports input (record { before = old; after = new })
cut-short Reports input old new captured text lent left answer capture reports is wrote = grind arith

-- a whole capture is the front of one
pub whole-front : (input : Input) (captured : Captured) → ReadsCapture input captured → ReadsFrontBut input
whole-front input captured read = grind (arith, append-nil)

-- why a report on a capture is not written whole: memory is refused, or the writer took a front of it
pub unwritten-whole : (Reports : Captured → List ℕ → Bool → Type 0) (input : Input) (old new : Option (List ℕ)) (captured : Captured) (text : List ℕ) (answer : Bool) (fault : RunFault)
    → ReadsCapture input captured → Reports captured text answer
    → (fault ≡ faults.Memory) ⊎ ((fault ≡ faults.Write) × ((left : List ℕ) × Wrote old new text left))
    → IsFaultOf Reports input (record { before = old; after = new }) fault
unwritten-whole Reports input old new captured text answer fault capture reports (inl is) =
    subst (IsFaultOf Reports input (record { before = old; after = new })) (sym is) (whole-front input captured capture)
unwritten-whole Reports input old new captured text answer fault capture reports (inr (is, wrote)) = grind (arith, cut-short)

-- why nothing is said of a whole capture: memory is refused
pub unfinished-front : (Reports : Captured → List ℕ → Bool → Type 0) (input : Input) (output : Output) (error : PairError)
    → error ≡ errors.Memory → ReadsFrontBut input → IsFaultOf Reports input output (of_error error)
unfinished-front Reports input output error is front = subst (λ e. IsFaultOf Reports input output (of_error e)) (sym is) front

-- ---- what `verify` answers of a capture

-- the answer that a spool doesn't explain is of one of the sessions
pub verified-within : (profile : Profile) (S : Spool) (sessions : List Named) (verified : VerifiedOfAll) → IsVerifiedOfAll profile S (unnamed sessions) verified
    → IsVerifiedWithin (length sessions) verified
verified-within profile S sessions (PermitsAll answers) exact = tt
verified-within profile S sessions (RefusesOne j k) exact = by (slice_get (unnamed sessions) j) refl exact
  where
    by : (o : Option Recorded) → slice_get (unnamed sessions) j ≡ o
        → MatchOption o ⊥ (λ s. ExplainsEach profile S (take j (unnamed sessions)) × RefusesAt profile S s.client s.server k) → j < length sessions
    by None e p = absurd p
    by (Some s) e p = grind (arith, length-map, slice_get_within (unnamed sessions) j s e)

-- the report on it, of what pieces hold
pub verify-reports : (marks : Marks) (overviews : Overviews) (held same : Held) (is_several : Bool) (verified : VerifiedOfAll) (answer : Bool) → VerifiesHeld marks overviews held verified
    → held ≡ same → answer ≡ is_permitted verified
    → VerifyReports marks overviews (record { held = same; is_several = is_several }) (verified_report is_several (names_of (sessions_of overviews held)) verified) answer
verify-reports marks overviews held same is_several verified answer verifies is answer_is =
    subst (λ (h : Held). VerifyReports marks overviews (record { held = h; is_several = is_several }) (verified_report is_several (names_of (sessions_of overviews held)) verified) answer)
    is (record {
      value = verifies.value;
      is_spool = verifies.is_spool;
      spool_is = verifies.spool_is;
      verified = verified;
      exact = verifies.exact;
      text_is = refl;
      answer_is = answer_is;
    })

-- why it isn't known
pub unverified : (marks : Marks) (overviews : Overviews) (input : Input) (output : Output) (captured : Captured) (fault : RunFault) → ReadsCapture input captured
    → IsUnverified captured.held fault → IsVerifyFault marks overviews input output fault
unverified marks overviews input output captured faults.Memory capture why = whole-front input captured capture
unverified marks overviews input output captured (faults.Spool fault) capture why = record { captured = captured; capture = capture; first = why }
unverified marks overviews input output captured fault capture why = absurd why

-- why it isn't written whole
pub unwritten-verified : (marks : Marks) (overviews : Overviews) (input : Input) (old new : Option (List ℕ)) (captured : Captured) (text : List ℕ) (answer : Bool) (fault : RunFault)
    → ReadsCapture input captured → VerifyReports marks overviews captured text answer
    → (fault ≡ faults.Memory) ⊎ ((fault ≡ faults.Write) × ((left : List ℕ) × Wrote old new text left))
    → IsVerifyFault marks overviews input (record { before = old; after = new }) fault
unwritten-verified marks overviews input old new captured text answer fault capture reports (inl is) =
    subst (IsVerifyFault marks overviews input (record { before = old; after = new })) (sym is) (whole-front input captured capture)
unwritten-verified marks overviews input old new captured text answer fault capture reports (inr (is, wrote)) = grind (arith, cut-short)
