-- Two streams have one reading, whatever decides which exchanges stand.
use Rattle.std.proofs.Common.{◌≡◌, ◌≢◌, ◌⊎◌, ℕ, zero, suc, ◌+◌, ◌<◌, ◌≤◌, ◌^◌, List, [], ◌∷◌, ◌++◌, length, inl, inr, refl, sym, ◌∙◌, arith}
use Rattle.nntp_article.specs.declared.session.profile.Profile.{Profile}
use Rattle.nntp_pair.specs.{declared.class.PairClass.TheVariants.{Malformed as PairMalformed}, Pairing.{Paired, Unpaired, IsNext, Ending, bad, Ends, asked_of}}
use Rattle.nntp_pair.{specs.Pairing.{responses_of, streams}, proofs.{NextLemmas.{one-end}, NextDecided.{next-or-end}, PassedLemmas.{passed-exactly}}}
use Rattle.nntp_theory.specs.{Inner.Given.{weight}, Permitted.{exchanged, ArePermitted}, Reading.{Judged, Accepted, Refused, Unspelled, accepted_with}}
use Rattle.nntp_theory.{specs.Reading.{IsJudged, AreJudged, IsReadingBy, IsReading}, proofs.Given.SessionsByFacts.{some_or_none, permits_alone}}
use Rattle.nntp_theory.proofs.{Ids.SizeOfASession.{session_size}, Reading.JudgedAnswers.{one_judged, judged_shorter, weight_next, accepted_weight}}
use Rattle.nntp_wire.specs.Session.{ClientStream}

module _ (Stand : List Paired → Type 0) where
  -- ---- one at most

  -- answers up to an end are determined
  one_run : (past : List Paired) (a b c : Unpaired) (answers others : List Judged) (ending other : Ending) → AreJudged Stand past a answers b → Ends b ending → ending ≢ bad PairMalformed
      → AreJudged Stand past a others c → Ends c other → other ≢ bad PairMalformed → (answers ≡ others) × (b ≡ c)
  one_run past a b c [] [] ending other p ends passed q also too = (refl, sym p ∙ q)
  one_run past a b c (x ∷ answers) (y ∷ others) ending other (m, first, p) ends passed (k, second, q) also too = grind (arith, one_run (accepted_with past y) k b c answers others ending, one_judged)
  one_run past a b c answers others ending other p ends passed q also too = grind arith

  -- two streams have one reading
  pub one_reading : (client : ClientStream) (server : List ℕ) (answers others : List Judged) (ending other : Ending)
      → IsReadingBy Stand client server answers ending → IsReadingBy Stand client server others other → (answers ≡ others) × (ending ≡ other)
  one_reading client server answers others ending other x y = grind (arith, one_run, one-end)

  -- ---- and one at least, where it is decided of exchanges that weigh no more than this

  module _ (most : ℕ) (decided : (past : List Paired) → weight (responses_of past) ≤ most → Stand past ⊎ (Stand past → ⊥)) where
    -- one more answer is judged
    abbrev IsMore : List Paired → Unpaired → Type 0
    IsMore past a = (answer : Judged) × (b : Unpaired) × IsJudged Stand past a answer b

    -- a reading ends here
    abbrev IsLast : Unpaired → Type 0
    IsLast a = (ending : Ending) × Ends a ending × (ending ≢ bad PairMalformed)

    -- a pair is accepted or refused
    pair_judged : (past : List Paired) (a b : Unpaired) (pair : Paired) → weight (responses_of past) + length a.server ≤ most → IsNext a pair b → IsMore past a
    pair_judged past a b pair small next = elim (decided (past ++ pair ∷ []) (omega (arith, weight_next past a b pair next, small)))
        [ inl h ↦ (Accepted pair, b, (next, h)) | inr none ↦ (Refused pair, b, (next, none)) ]

    -- an end is one of the reading, or a frame is passed over
    end_judged : (past : List Paired) (a : Unpaired) (ending : Ending) → Ends a ending → IsMore past a ⊎ IsLast a
    end_judged past a (bad PairMalformed) ends = let some = (passed-exactly a).0 ends in inl (Unspelled a.index some.0 some.1 some.2, some.3, (refl, some.4))
    end_judged past a ending ends = inr (ending, ends, λ e. cc)

    -- so there is one answer more, or the reading ends
    more_or_last : (past : List Paired) (a : Unpaired) → weight (responses_of past) + length a.server ≤ most → IsMore past a ⊎ IsLast a
    more_or_last past a small = elim (next-or-end a) [
      | inl (pair, b, next) ↦ inl (pair_judged past a b pair small next)
      | inr (ending, ends) ↦ end_judged past a ending ends
    ]

    -- the reading from here on
    abbrev HasReading : List Paired → Unpaired → Type 0
    HasReading past a = (answers : List Judged) × (b : Unpaired) × AreJudged Stand past a answers b × IsLast b

    -- each answer takes octets
    read_on : (past : List Paired) (a : Unpaired) (steps : ℕ) → length a.server ≤ steps → weight (responses_of past) + length a.server ≤ most → HasReading past a
    read_on past a zero short small = grind (arith, more_or_last, judged_shorter)
    read_on past a (suc steps) short small = elim (more_or_last past a small) [
      | inl (answer, b, is) ↦
          let light = accepted_weight Stand past a b (answer ∷ []) (b, is, refl) in
          let rest = read_on (accepted_with past answer) b steps (omega (arith, judged_shorter Stand past a b answer is, short)) (omega (arith, light, small)) in
          (answer ∷ rest.0, rest.1, (b, is, rest.2), rest.3)
      | inr last ↦ ([], a, refl, last)
    ]

    -- two streams have a reading
    pub some_reading_by : (client : ClientStream) (server : List ℕ) → length server ≤ most → (answers : List Judged) × (ending : Ending) × IsReadingBy Stand client server answers ending
    some_reading_by client server small = grind (arith, read_on [] (streams client server) (length server) (omega arith) (omega (arith, small)))

-- it is decided whether some spool permits exchanges
pub some_reading : (profile : Profile) (client : ClientStream) (server : List ℕ) → length server < 2 ^ 210
    → (answers : List Judged) × (ending : Ending) × IsReading profile client server answers ending
some_reading profile client server small = some_reading_by (ArePermitted profile) (length server) decided client server (omega arith)
  where
    decided : (past : List Paired) → weight (responses_of past) ≤ length server → ArePermitted profile past ⊎ (ArePermitted profile past → ⊥)
    decided past light =
        elim (some_or_none profile (asked_of past) (responses_of past) (omega (arith, session_size, light, small)))
        [ inl h ↦ inl ((permits_alone profile (exchanged past)).1 h) | inr none ↦ inr (λ h. none ((permits_alone profile (exchanged past)).0 h)) ]
