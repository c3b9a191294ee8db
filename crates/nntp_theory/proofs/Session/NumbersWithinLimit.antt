-- The numbers of a group are within the limit.
use Rattle.std.proofs.{lemmas.Bool.{true≢false, and_parts, or_right, eqb-true, leb-true, lt-ltb, cases_lt}, Common.{◌≡◌, ℕ, ◌≤◌, ◌<◌, true, cond, IsTrue, List}}
use Rattle.std.{proofs.Common.{[], ◌∷◌, inl, inr, sym, ◌∙◌, arith}, specs.{Prelude.{IsFalse}, List.{AllByRecursion, list_any}}}
use Rattle.nntp_theory.specs.{Inner.Estimates.{estimate_in, is_within}, Given.{is_shown_group, asks_in, asks_of, denies, is_shown, is_denied, shows_group}}
use Rattle.nntp_theory.{specs.Given.{is_end}, proofs.{Members.{In, all_at, any_in, found_in, to_flat, from_flat}, Session.NumbersOfShownGroups.{Placed}}}
use Rattle.nntp_theory.proofs.Session.FittingFacts.{IsFitting}
use Rattle.nntp_wire.specs.{declared.marks.Marks.{Marks}, Listing.{ActiveValue}}
use Rattle.nntp_article.specs.{Session.{Spool.{Name}, Machine.{is_same}}, declared.session.profile.Profile.{Profile}}
use Rattle.nntp_said.specs.{Asks.{Ask, Estimates, Bounds}, Facts.{Fact, ThereIs, Asks, GroupsAre}}

module _ (profile : Profile) (facts : List Fact) (how : Marks) (fitting : AllByRecursion (IsFitting profile) facts) (placed : AllByRecursion (Placed how facts) facts) where
  fits : (fact : Fact) → In fact facts → IsFitting profile fact
  fits fact i = all_at (IsFitting profile) fact facts fitting i

  -- what the asks of one fact deny is denied
  denied_by : (name : Name) (fact : Fact) → In fact facts → (ask : Ask) → In ask (asks_in name fact) → (n : ℕ) → denies ask n ≡ true → is_denied (asks_of name facts) n ≡ true
  denied_by name fact i ask j n d = any_in (λ ask. denies ask n) ask (asks_of name facts) (to_flat (asks_in name) fact ask facts i j) d

  -- what is above the limit is denied
  above_denied : (name : Name) → IsTrue (is_shown_group facts name) → (n : ℕ) → profile.limit < n → is_denied (asks_of name facts) n ≡ true
  above_denied name i n above = let f = found_in (shows_group name) facts i in by f.0 f.1 f.2
    where
      by : (fact : Fact) → In fact facts → shows_group name fact ≡ true → is_denied (asks_of name facts) n ≡ true
      by (ThereIs g) j t =
          let s = all_at (Placed how facts) (ThereIs g) facts placed j in
          grind (arith, fits (Asks g (Estimates how s.marks)) s.estimated, denied_by name (Asks g (Estimates how s.marks)) s.estimated (Estimates how s.marks))
      by (GroupsAre p lines) j t =
          let f = found_in (λ line. is_same line.name name) lines t in
          let bounds = Bounds f.0.low f.0.high in
          let there = to_flat (λ (line : ActiveValue). cond (is_same line.name name) (Bounds line.low line.high ∷ []) []) f.0 bounds lines f.1 in
          grind (arith, fits (GroupsAre p lines) j, all_at, there, f.2, denied_by name (GroupsAre p lines) j bounds, or_right, lt-ltb)
      by fact j t = cc

  -- and so is one of all
  pub end_in_limit : (name : Name) (n count : ℕ) → IsTrue (list_any (λ ask. is_end ask n) (asks_of name facts))
      → ((ask : Ask) → In ask (asks_of name facts) → IsTrue (is_within (estimate_in ask) count)) → 1 ≤ count → IsFalse (is_denied (asks_of name facts) n) → (1 ≤ n) × (n ≤ profile.limit)
  end_in_limit name n count t few some free =
      let f = found_in (λ ask. is_end ask n) (asks_of name facts) t in
      grind (arith, from_flat (asks_in name) f.0 facts f.1, fits, few f.0 f.1, any_in (λ ask. denies ask n) f.0 (asks_of name facts) f.1, from_flat)

  -- so a number that isn't denied is within it
  pub free_in_limit : (name : Name) → IsTrue (is_shown_group facts name) → (n : ℕ) → IsFalse (is_denied (asks_of name facts) n) → n ≤ profile.limit
  free_in_limit name i n free = elim (cases_lt profile.limit n) [ inl l ↦ absurd (true≢false (sym (above_denied name i n l) ∙ free)) | inr le ↦ le ]

  -- and so is one that is shown
  pub shown_in_limit : (name : Name) (n : ℕ) → IsTrue (is_shown (asks_of name facts) n) → (1 ≤ n) × (n ≤ profile.limit)
  shown_in_limit name n t = grind (arith, found_in, from_flat, fits, true≢false, and_parts, leb-true, eqb-true, all_at)
