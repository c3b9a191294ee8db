-- Octets of sent lines, each beside the two behind it.
use Rattle.std.proofs.Common.{◌≡◌, ◌≢◌, ◌<◌, ◌∙◌, ◌↔◌, ◌++◌, ◌∷◌, [], List, ℕ, Bool, true, length, sym, ap, subst, refl, arith, ⊎_elim, length-append}
use Rattle.std.proofs.{Common.{slice_index_or, ◌≤◌, ◌-◌, take, nat_eq, map}, Math.Bool.{and-true}, lemmas.Bool.{cases_eq, and_parts, Decides.{nat_tests}}}
use Rattle.std.{proofs.lemmas.{Bool.Decides.{Decides-eqb}, Slice.Eq.{ends_is}}, specs.{Prelude.{◌&&◌, not}, List.{ends_with}}}
use Rattle.nntp_wire.specs.{Octets.{dot, crlf, is_clean, is_line_breaking}, Inner.Block.{are_fit, is_fit, IsSent}, Block.{stuffed, unstuffed, sent, AreClean}}
use Rattle.nntp_wire.proofs.{BlockLemmas.{sent-cons, stuffed-iff, stuffed-clean, unstuffed-stuffed}, FrameLemmas.{ended-end}}

-- fewer than three octets fit
pub fit-short : (b : Bool) (all rest : List ℕ) → length rest < 3 → are_fit all ≡ (b && are_fit rest) → b ≡ are_fit all
fit-short b all [] low e = sym (e ∙ and-true b)
fit-short b all rest low e = grind arith

-- what an octet that fits says of the next
fit-pair : (a b c : ℕ) → is_fit a b c ≡ true → (a ≢ 0) × ((a ≡ 13) ↔ (b ≡ 10))
fit-pair a b c h = grind arith

-- what says that an octet fits
fits_of : (a b c : ℕ) → a ≢ 0 → a ≢ 13 → b ≢ 10 → (a ≡ 10 → b ≡ dot → c ≡ dot) → is_fit a b c ≡ true
fits_of a b c some no_cr no_lf dots = grind (arith, nat_tests)

-- the octets before the last CRLF, and that CRLF
fit-head : (a : ℕ) (front : List ℕ) → are_fit (a ∷ (front ++ crlf)) ≡ true → a ≢ 0
fit-head a [] h = (fit-pair a 13 10 (and_parts _ _ h).0).0
fit-head a (b ∷ []) h = (fit-pair a b 13 (and_parts _ _ h).0).0
fit-head a (b ∷ c ∷ front) h = (fit-pair a b c (and_parts _ _ h).0).0

fit-next : (a b : ℕ) (front : List ℕ) → are_fit (a ∷ b ∷ (front ++ crlf)) ≡ true → (a ≡ 13) ↔ (b ≡ 10)
fit-next a b [] h = (fit-pair a b 13 (and_parts _ _ h).0).1
fit-next a b (c ∷ front) h = (fit-pair a b c (and_parts _ _ h).0).1

fit-tail : (a b : ℕ) (front : List ℕ) → are_fit (a ∷ b ∷ (front ++ crlf)) ≡ true → are_fit (b ∷ (front ++ crlf)) ≡ true
fit-tail a b front h = grind arith

-- a clean octet
clean-octet : (b : ℕ) → (not (is_line_breaking b) ≡ true) ↔ ((b ≢ 0) × ((b ≢ 13) × (b ≢ 10)))
clean-octet b = grind (arith, nat_tests)

fit-stuffed : (line others : List ℕ) → are_fit (10 ∷ ((line ++ crlf) ++ others)) ≡ true → stuffed (unstuffed line) ≡ line
fit-stuffed line others h = grind arith

-- the octets are a clean line, its CRLF and others that are sent
record HasRest (bytes : List ℕ) : Type 0 where
  line : List ℕ
  others : List ℕ
  clean : is_clean line ≡ true
  whole : bytes ≡ (line ++ crlf) ++ others
  is_sent : IsSent others

sent-rest : (bytes : List ℕ) → are_fit (10 ∷ bytes) ≡ true → HasRest bytes → IsSent bytes
sent-rest bytes h r =
    let fit : are_fit (10 ∷ ((r.line ++ crlf) ++ r.others)) ≡ true = subst (λ t. are_fit (10 ∷ t) ≡ true) r.whole h in
    sent-cons bytes r.line r.others r.whole ((stuffed-iff r.line r.clean).0 (fit-stuffed r.line r.others fit)) r.is_sent

-- no line before CRLF and others
rest-none : (b c : ℕ) (bytes : List ℕ) → b ≡ 13 → c ≡ 10 → IsSent bytes → HasRest (b ∷ c ∷ bytes)
rest-none b c bytes cr lf is = record { line = []; others = bytes; clean = refl; whole = (λ k. cr k ∷ lf k ∷ bytes); is_sent = is }

-- one octet more in front of a line
rest-more : (b : ℕ) (bytes : List ℕ) → not (is_line_breaking b) ≡ true → HasRest bytes → HasRest (b ∷ bytes)
rest-more b bytes h r = record {
  line = b ∷ r.line;
  others = r.others;
  clean = let c : (not (is_line_breaking b) && is_clean r.line) ≡ true = rw (h, r.clean) refl in c;
  whole = ap (λ t. b ∷ t) r.whole;
  is_sent = r.is_sent;
}

-- octets that fit behind one that is no CR, and end with CRLF
rest-of : (p : ℕ) (front : List ℕ) → p ≢ 13 → are_fit (p ∷ (front ++ crlf)) ≡ true → HasRest (front ++ crlf)
rest-of p [] other h = rest-none 13 10 [] refl refl ([], record { clean = tt; whole = refl })
rest-of p (b ∷ []) other h =
    let tail : are_fit (b ∷ crlf) ≡ true = fit-tail p b [] h in
    ⊎_elim
    (λ (is : b ≡ 13). absurd (let e : 13 ≡ 10 = (fit-pair b 13 10 (and_parts _ _ tail).0).1.0 is in omega arith))
    (λ (next : b ≢ 13). rest-more b crlf ((clean-octet b).1 (fit-head b [] tail, (next, λ e. other ((fit-next p b [] h).1 e)))) (rest-of b [] next tail))
    (cases_eq b 13)
rest-of p (b ∷ c ∷ front) other h =
    let tail : are_fit (b ∷ c ∷ (front ++ crlf)) ≡ true = fit-tail p b (c ∷ front) h in
    ⊎_elim
    (grind (arith, fit-next, fit-tail, rest-none, sent-rest, rest-of 10 front (λ e. omega arith)))
    (λ (next : b ≢ 13).
    rest-more b (c ∷ (front ++ crlf)) ((clean-octet b).1 (fit-head b (c ∷ front) tail, (next, λ e. other ((fit-next p b (c ∷ front) h).1 e)))) (rest-of b (c ∷ front) next tail))
    (cases_eq b 13)

-- octets that fit, the first as behind an LF, and end with CRLF are sent lines
pub fit-sent : (front : List ℕ) → are_fit (10 ∷ (front ++ crlf)) ≡ true → IsSent (front ++ crlf)
fit-sent front h = sent-rest (front ++ crlf) h (rest-of 10 front (λ e. omega arith) h)

twice : (b c : ℕ) (line : List ℕ) → b ≡ dot → stuffed (unstuffed (b ∷ c ∷ line)) ≡ b ∷ c ∷ line → c ≡ dot
twice b c line is e = grind arith

-- a clean line behind an octet
line-fit : (p : ℕ) (line others : List ℕ) → p ≢ 0 → p ≢ 13 → (p ≡ 10 → stuffed (unstuffed line) ≡ line) → is_clean line ≡ true → are_fit (10 ∷ others) ≡ true
    → are_fit (p ∷ ((line ++ crlf) ++ others)) ≡ true
line-fit p [] others some other dots clean h = grind arith
line-fit p (b ∷ line) others some other dots clean h =
    let parts : (not (is_line_breaking b) ≡ true) × (is_clean line ≡ true) = and_parts _ _ clean in
    let is = (clean-octet b).0 parts.0 in
    search (arith, fits_of, twice, line-fit b line others is.0 is.1.0 (λ e. absurd (is.1.1 e)) parts.1 h)

-- sent lines fit, the first octet as behind an LF
pub sent-fit : (lines : List (List ℕ)) → AreClean lines → are_fit (10 ∷ sent lines) ≡ true
sent-fit [] clean = refl
sent-fit (l ∷ ls) clean = grind (arith, line-fit, unstuffed-stuffed, stuffed-clean, sent-fit ls clean.1)

-- and end with CRLF, if there are some
sent_ends : (bytes : List ℕ) → 0 < length bytes → IsSent bytes → (front : List ℕ) × (bytes ≡ front ++ crlf)
sent_ends bytes some ([], sends) = absurd (omega (arith, ap length sends.whole))
sent_ends bytes some (l ∷ ls, sends) = let ends = ended-end (stuffed l) (map stuffed ls) in (ends.0, sends.whole ∙ ends.1)

-- no lines are sent by one octet
pub sent-two : (bytes : List ℕ) → 0 < length bytes → IsSent bytes → 2 ≤ length bytes
sent-two bytes some h = let ends = sent_ends bytes some h in omega (arith, ap length ends.1, length-append ends.0 crlf)

-- the first two of some octets
fit-first : (bytes : List ℕ) → 2 ≤ length bytes → are_fit (10 ∷ bytes) ≡ (is_fit 10 (slice_index_or bytes 0 0) (slice_index_or bytes 1 0) && are_fit bytes)
fit-first bytes some = grind arith

-- octets are sent lines exactly if the first ones fit behind an LF, the last are CRLF, and all fit
pub sent-iff : (bytes : List ℕ) → 2 ≤ length bytes
    → ((is_fit 10 (slice_index_or bytes 0 0) (slice_index_or bytes 1 0) ≡ true) × ((ends_with nat_eq bytes crlf ≡ true) × (are_fit bytes ≡ true))) ↔ IsSent bytes
sent-iff bytes some = (
  λ (first, (ends, all)).
      let is : bytes ≡ take (length bytes - 2) bytes ++ crlf = (ends_is Decides-eqb bytes crlf _ refl).0 ends in
      let fit : are_fit (10 ∷ bytes) ≡ true = fit-first bytes some ∙ rw (first, all) refl in
      subst IsSent (sym is) (fit-sent (take (length bytes - 2) bytes) (subst (λ t. are_fit (10 ∷ t) ≡ true) is fit)),
  λ h.
      let ends = sent_ends bytes (omega arith) h in
      let fit : are_fit (10 ∷ bytes) ≡ true = ap (λ t. are_fit (10 ∷ t)) h.1.whole ∙ sent-fit h.0 h.1.clean in
      let parts = and_parts _ _ (sym (fit-first bytes some) ∙ fit) in
      (parts.0, ((ends_is Decides-eqb bytes crlf _ refl).1 ends.0 ends.1, parts.1)),
)
