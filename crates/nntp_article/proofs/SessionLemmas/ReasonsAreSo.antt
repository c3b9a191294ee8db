-- What a reason names is at fault.
use Rattle.std.proofs.Common.{◌≡◌, ℕ, ◌≤◌, Bool, true, false, not, ◌&&◌, ◌||◌, ◌==◌, Option, None, Some, is_some, option_map, MatchOption, List, [], ◌∷◌, ◌++◌}
use Rattle.std.proofs.{Common.{map, ◌⊎◌, inl, inr, refl, sym, ap, subst, arith, ◌∙◌}, lemmas.Bool.{or_cases, leb-false, ltb-false, and_right, and_from}}
use Rattle.std.{proofs.lemmas.{Bool.{or_left, or_right}, Option.{IfSome_then}}, specs.Prelude.{◌+◌, ◌-◌, nat_le, nat_lt, unwrap_or, if◌then◌else◌, IfSome}}
use Rattle.std.specs.{Prelude.{is_none}, List.{list_any}, Option.{option_map_or, option_or}, FinMap.{get}, Cmp.Lexicographic.{bytes_decides}}
use Rattle.nntp_wire.specs.Answer.{Success, Asked, Response, greeting, to, group_is, numbers_are, sends, active_are, plain, success_code, overview_code}
use Rattle.nntp_wire.specs.{Answer.{overviews_are}, declared.{water_marks.WaterMarks.{WaterMarks}, command.What.{What, TheVariants.{Article, Head, Body}}}}
use Rattle.nntp_wire.specs.{declared.{command.{What.TheVariants.{Stat}, OverviewKeyword.{OverviewKeyword}}, range.Range.{Range}}, Listing.{ActiveValue}}
use Rattle.nntp_wire.specs.{Listing.{OverviewValue, listed_numbers, active_groups, overviews_of}, Decided.{matches_name}, Command.{Target, by_id, current}}
use Rattle.nntp_wire.specs.{Command.{the_id, in_range, the_current, group, list_group, next, last, retrieve, list_active, over}, Reason.{unless, first}}
use Rattle.nntp_wire.proofs.Reasons.{so_unless, so_first, so_each}
use Rattle.nntp_article.specs.{Article.Parts.{Line, is_head, said_id}, Session.{Spool.{Name}, Machine.{Visible, is_same, is_generic, is_greeting, group_names}}}
use Rattle.nntp_article.specs.Session.{Machine.{overview_numbers, only, may_list, is_article_number, are_zeros, is_in_range, code_fits}, Misfit.{Misfit}}
use Rattle.nntp_article.specs.Session.Misfit.{wrong_code, wrong_name, wrong_number, wrong_id, below_low, wrong_marks, beyond_limit, not_above, beyond_range}
use Rattle.nntp_article.specs.Session.Misfit.{unmatched, listed_twice, wrong_lines, no_head, other_id, name_misfit, marks_misfit, step_misfit, order_misfit}
use Rattle.nntp_article.specs.Session.Misfit.{listed_misfit, selected_misfit, target_misfit, said_misfit, head_misfit, active_misfit, twice_misfit}
use Rattle.nntp_article.specs.{Session.Misfit.{step_sent_misfit, code_misfit, misfit, allowed_codes, overview_misfit, answered_code}, Inner.Misfit.{marked_by}}
use Rattle.nntp_article.specs.Inner.Misfit.{numbers_of, is_outside, is_unmatched, AreNeighbours, IsAbove, asked_group, asked_number, asked_id, answered_number}
use Rattle.nntp_article.specs.Inner.Misfit.{answered_id, sent_by, sent_head, listed_words, IsTwice, are_out_of_order, have_no_room, is_out_of_order}
use Rattle.nntp_article.specs.{Inner.Misfit.{has_wrong_marks, has_wrong_lines, has_parts, lacks_parts}, declared.session.profile.Profile.{Profile}}

so_if : (Q : Misfit → Type 0) (b : Bool) (o : Option Misfit) → (b ≡ false → IfSome o Q) → IfSome (if b then None else o) Q
so_if Q b o p = grind arith

-- ---- numbers that don't ascend

record Falls (numbers : List ℕ) (why : Misfit) : Type 0 where
  before : ℕ
  number : ℕ
  is : why ≡ not_above before number
  neighbours : AreNeighbours numbers before number
  falls : number ≤ before

so_order : (before : ℕ) (ns : List ℕ) → IfSome (order_misfit (Some before) ns) (Falls (before ∷ ns))
so_order before [] = tt
so_order before (n ∷ ns) =
    so_first (Falls (before ∷ n ∷ ns)) (step_misfit (Some before) n) (order_misfit (Some n) ns ∷ [])
    (so_unless _ (nat_lt before n) (not_above before n)
    (λ e. record { before = before; number = n; is = refl; neighbours = record { front = []; behind = ns; whole = refl }; falls = ltb-false before n e }))
    (so_first (Falls (before ∷ n ∷ ns)) (order_misfit (Some n) ns) [] (IfSome_then (order_misfit (Some n) ns) (so_order n ns) later) tt)
  where
    later : (why : Misfit) → Falls (n ∷ ns) why → Falls (before ∷ n ∷ ns) why
    later why f = record {
      before = f.before;
      number = f.number;
      is = f.is;
      falls = f.falls;
      neighbours = record { front = before ∷ f.neighbours.front; behind = f.neighbours.behind; whole = ap (λ rest. before ∷ rest) f.neighbours.whole };
    }

so_numbers : (ns : List ℕ) → IfSome (order_misfit None ns) (Falls ns)
so_numbers [] = tt
so_numbers (n ∷ ns) = so_first (Falls (n ∷ ns)) (order_misfit (Some n) ns) [] (so_order n ns) tt

-- ---- each reason

-- what the reason names is at fault
abbrev pub Tells : Profile → Visible → Asked → Response → Misfit → Type 0
Tells profile v asked response (wrong_code code allowed) = (code ≡ answered_code asked response) × (allowed ≡ allowed_codes v asked)
Tells profile v asked response (below_low low) = MatchOption (marked_by response) ⊥ (IsAbove v low)
Tells profile v asked response (beyond_limit n) = is_article_number profile.limit n ≡ false
Tells profile v asked response (not_above before n) = AreNeighbours (numbers_of response) before n × (n ≤ before)
Tells profile v asked response (beyond_range n) = is_outside asked n ≡ true
Tells profile v asked response (unmatched name) = is_unmatched asked name ≡ true
Tells profile v asked response (wrong_name name) =
    MatchOption (marked_by response) ⊥ (λ marked. marked.0 ≡ name) × MatchOption (asked_group v asked) ⊥ (λ word. is_same name word ≡ false)
Tells profile v asked response (wrong_number n) =
    (answered_number response ≡ Some n) × MatchOption (asked_number asked) (v.selected ≡ None) (λ k. (n == k) ≡ false)
Tells profile v asked response (wrong_id id) =
    (answered_id response ≡ Some id) × MatchOption (asked_id asked) ⊥ (λ word. is_same id word ≡ false)
Tells profile v asked response (listed_twice word) = IsTwice (listed_words response) word
Tells profile v asked response wrong_lines = has_wrong_lines asked response ≡ true
Tells profile v asked response (other_id said) =
    MatchOption (sent_head asked response) ⊥ (λ head. said_id head ≡ Some said) × MatchOption (sent_by response) ⊥ (λ sent. is_same said sent.id ≡ false)
Tells profile v asked response (wrong_marks name) = has_wrong_marks response name ≡ true
Tells profile v asked response no_head = lacks_parts asked response ≡ true

or_false : (a b : Bool) → (a || b) ≡ false → b ≡ false
or_false a b e = grind arith

-- ---- marks

-- the marks are out of order, or there is no room between them
disordered : (p a b : Bool) → (a && b) ≡ false → (not (p && a) || not b) ≡ true
disordered p a b e = grind arith

so_marks : (profile : Profile) (v : Visible) (asked : Asked) (response : Response) (name : Name) (m : WaterMarks) → marked_by response ≡ Some (name, m)
    → has_wrong_marks response name ≡ (is_same name name && have_no_room m)
    → IfSome (marks_misfit profile v name m) (Tells profile v asked response)
so_marks profile v asked response name m is given =
    so_if Q (are_zeros m) _
    (λ z. so_first Q _ _ (so_unless Q (nat_le 1 m.low) _ (λ e. wrong z (or_left _ _ (ap (λ b. not (b && nat_le m.low (m.high + 1))) e))))
    (so_first Q _ _ (so_unless Q (nat_le m.high profile.limit) _ (λ e. and_right (nat_le 1 m.high) (nat_le m.high profile.limit) e))
    (so_first Q _ _ (so_unless Q (nat_le m.low (m.high + 1) && nat_le m.estimate (m.high + 1 - m.low)) _
    (λ e. wrong z (disordered (nat_le 1 m.low) (nat_le m.low (m.high + 1)) (nat_le m.estimate (m.high + 1 - m.low)) e)))
    (so_first Q _ _ (so_unless Q (nat_le (unwrap_or (get v.lows name) 0) m.low) _
    (λ e. subst (λ o. MatchOption o ⊥ (IsAbove v (unwrap_or (get v.lows name) 0))) (sym is) (above (get v.lows name) refl e))) tt))))
  where
    Q : Misfit → Type 0
    Q = Tells profile v asked response

    wrong : are_zeros m ≡ false → (are_out_of_order m.low m.high || not (nat_le m.estimate (m.high + 1 - m.low))) ≡ true → has_wrong_marks response name ≡ true
    wrong z x = given ∙ and_from (is_same name name) (have_no_room m) ((bytes_decides name name).1 refl) (and_from (not (are_zeros m)) _ (ap not z) x)

    above : (o : Option ℕ) → get v.lows name ≡ o → nat_le (unwrap_or o 0) m.low ≡ false → IsAbove v (unwrap_or o 0) (name, m)
    above o got e = grind (arith, leb-false)

so_selected : (profile : Profile) (v : Visible) (asked : Asked) (response : Response) (why : Misfit) (n : ℕ) → Tells profile v asked response why
    → IfSome (selected_misfit profile v why n) (Tells profile v asked response)
so_selected profile v asked response why n t = grind arith

none_some : (o : Option Name) → is_some o ≡ false → o ≡ None
none_some o e = grind arith

-- the reason is that of an article that is answered
abbrev OfSent : Profile → Visible → What → Target → Success → Misfit → Type 0
OfSent profile v what which sent = Tells profile v (to (retrieve what which)) (sends sent)

so_target : (profile : Profile) (v : Visible) (what : What) (which : Target) (sent : Success) (why : Misfit) → OfSent profile v what which sent why
    → IfSome (target_misfit profile v why which sent.number sent.id) (OfSent profile v what which sent)
so_target profile v what which sent why t = grind (arith, so_first, so_unless, none_some, or_false, so_selected)

so_parsed : (profile : Profile) (v : Visible) (what : What) (which : Target) (sent : Success) (b : Bool) (head : List Line) → has_parts what sent.block ≡ b
    → sent_head (to (retrieve what which)) (sends sent) ≡ Some head → IfSome (first (unless b no_head ∷ said_misfit sent.id (said_id head) ∷ [])) (OfSent profile v what which sent)
so_parsed profile v what which sent b head parts is = grind arith

so_head : (profile : Profile) (v : Visible) (what : What) (which : Target) (sent : Success) (lines : Option (List Line)) → sent.block ≡ lines
    → IfSome (head_misfit what sent.id lines) (OfSent profile v what which sent)
so_head profile v Article which sent (Some lines) e = grind arith
so_head profile v Article which sent None e = ap (λ b. not (has_parts Article b)) e
so_head profile v Head which sent (Some lines) e = so_parsed profile v Head which sent (is_head lines) lines (ap (has_parts Head) e) e
so_head profile v Head which sent None e = ap (λ b. not (has_parts Head b)) e
so_head profile v Body which sent (Some lines) e = tt
so_head profile v Body which sent None e = ap (λ b. not (has_parts Body b)) e
so_head profile v Stat which sent (Some lines) e = ap (λ b. not (has_parts Stat b)) e
so_head profile v Stat which sent None e = tt

so_active : (profile : Profile) (v : Visible) (response : Response) (p : Option (List ℕ)) (line : ActiveValue)
    → (is_out_of_order line.name line ≡ true → has_wrong_marks response line.name ≡ true) → IfSome (active_misfit profile p line) (Tells profile v (to (list_active p)) response)
so_active profile v response p line listed =
    so_first Q _ _
    (so_if Q (line.low == 0 && line.high == 0) _
    (λ z. so_first Q _ _ (so_unless Q (nat_le 1 line.low && nat_le line.low (line.high + 1)) _
    (λ e. listed (and_from (is_same line.name line.name && not (line.low == 0 && line.high == 0)) (are_out_of_order line.low line.high)
    (and_from (is_same line.name line.name) _ ((bytes_decides line.name line.name).1 refl) (ap not z)) (ap not e))))
    (so_first Q _ _ (so_unless Q (nat_le line.high profile.limit) _ (and_right (nat_le 1 line.high) (nat_le line.high profile.limit))) tt)))
    (so_first Q _ _ (so_unless Q (option_map_or (λ w. matches_name w line.name) p true) (unmatched line.name) (by p)) tt)
  where
    Q : Misfit → Type 0
    Q = Tells profile v (to (list_active p)) response

    by : (p : Option (List ℕ)) → option_map_or (λ w. matches_name w line.name) p true ≡ false → is_unmatched (to (list_active p)) line.name ≡ true
    by p e = grind arith

-- the lines are among those that the answer lists
so_actives : (profile : Profile) (v : Visible) (response : Response) (p : Option (List ℕ)) (lines : List ActiveValue)
    → ((name : Name) → list_any (is_out_of_order name) lines ≡ true → has_wrong_marks response name ≡ true)
    → IfSome (first (map (active_misfit profile p) lines)) (Tells profile v (to (list_active p)) response)
so_actives profile v response p [] listed = tt
so_actives profile v response p (line ∷ lines) listed =
    so_first (Tells profile v (to (list_active p)) response) (active_misfit profile p line) (map (active_misfit profile p) lines)
    (so_active profile v response p line (λ e. listed line.name (or_left (is_out_of_order line.name line) (list_any (is_out_of_order line.name) lines) e)))
    (so_actives profile v response p lines (λ name e. listed name (or_right (is_out_of_order name line) (list_any (is_out_of_order name) lines) e)))

-- the word stands in the list
record Occurs (words : List (List ℕ)) (word : List ℕ) : Type 0 where
  front : List (List ℕ)
  behind : List (List ℕ)
  whole : words ≡ front ++ word ∷ behind

-- the reason names a word that stands in the list twice, or in it and before it
record IsListedTwice (before words : List (List ℕ)) (why : Misfit) : Type 0 where
  word : List ℕ
  is : why ≡ listed_twice word
  ways : ((list_any (is_same word) before ≡ true) × Occurs words word) ⊎ IsTwice words word

so_twice : (before words : List (List ℕ)) → IfSome (twice_misfit before words) (IsListedTwice before words)
so_twice before [] = tt
so_twice before (first ∷ words) = by (list_any (is_same first) before) refl (so_twice (first ∷ before) words)
  where
    later : (why : Misfit) → IsListedTwice (first ∷ before) words why → IsListedTwice before (first ∷ words) why
    later why t = record { word = t.word; is = t.is; ways = at t.ways }
      where
        at : ((list_any (is_same t.word) (first ∷ before) ≡ true) × Occurs words t.word) ⊎ IsTwice words t.word
            → ((list_any (is_same t.word) before ≡ true) × Occurs (first ∷ words) t.word) ⊎ IsTwice (first ∷ words) t.word
        at (inr two) = inr (record { front = first ∷ two.front; between = two.between; behind = two.behind; whole = ap (λ t. first ∷ t) two.whole })
        at (inl one) = elim (or_cases (is_same t.word first) (list_any (is_same t.word) before) one.0) [
          | inl e ↦ (let same : t.word ≡ first = (bytes_decides t.word first).0 e in
              inr (record { front = []; between = one.1.front; behind = one.1.behind; whole = λ i. sym same i ∷ one.1.whole i }))
          | inr e ↦ inl (e, record { front = first ∷ one.1.front; behind = one.1.behind; whole = ap (λ t. first ∷ t) one.1.whole })
        ]

    by : (b : Bool) → list_any (is_same first) before ≡ b → IfSome (twice_misfit (first ∷ before) words) (IsListedTwice (first ∷ before) words)
        → IfSome (if b then Some (listed_twice first) else twice_misfit (first ∷ before) words) (IsListedTwice before (first ∷ words))
    by true e t = record { word = first; is = refl; ways = inl (e, record { front = []; behind = words; whole = refl }) }
    by false e t = IfSome_then (twice_misfit (first ∷ before) words) t later

-- where nothing stands before them, the answer lists it twice
all_twice : (profile : Profile) (v : Visible) (asked : Asked) (response : Response) (why : Misfit) → IsListedTwice [] (listed_words response) why → Tells profile v asked response why
all_twice profile v asked response why t = grind arith

so_words : (profile : Profile) (v : Visible) (asked : Asked) (response : Response) → IfSome (twice_misfit [] (listed_words response)) (Tells profile v asked response)
so_words profile v asked response = IfSome_then (twice_misfit [] (listed_words response)) (so_twice [] (listed_words response)) (all_twice profile v asked response)

-- ---- numbers that are listed

so_ascending : (profile : Profile) (v : Visible) (asked : Asked) (response : Response) → IfSome (order_misfit None (numbers_of response)) (Tells profile v asked response)
so_ascending profile v asked response =
    IfSome_then (order_misfit None (numbers_of response)) (so_numbers (numbers_of response)) (λ why f. subst (Tells profile v asked response) (sym f.is) (f.neighbours, f.falls))

so_within : (profile : Profile) (v : Visible) (asked : Asked) (response : Response) (range : Range) → ((n : ℕ) → is_outside asked n ≡ not (is_in_range range n))
    → (ns : List ℕ) → IfSome (first (map (listed_misfit profile.limit range) ns)) (Tells profile v asked response)
so_within profile v asked response range outside =
    so_each Q (listed_misfit profile.limit range)
    (λ n. so_first Q _ _ (so_unless Q (is_article_number profile.limit n) _ (λ e. e)) (so_first Q _ _ (so_unless Q (is_in_range range n) _ (λ e. outside n ∙ ap not e)) tt))
  where
    Q : Misfit → Type 0
    Q = Tells profile v asked response

-- ---- overviews

-- the only overview, where an id was asked for
so_named : (profile : Profile) (v : Visible) (keyword : OverviewKeyword) (word : List ℕ) (lines : List (List ℕ)) (why : Misfit) (o : Option OverviewValue) → only (overviews_of lines) ≡ o
    → IfSome (overview_misfit profile v why (by_id word) o) (Tells profile v (to (over keyword (the_id word))) (overviews_are lines))
so_named profile v keyword word lines why None e = ap is_none e
so_named profile v keyword word lines why (Some x) e =
    so_first Q _ _ (so_unless Q (is_same x.id word) _ (λ f. (ap (option_map (λ o. o.id)) e, f)))
    (so_first Q _ _ (so_unless Q (x.number == 0 || is_some v.selected) _ (λ f. (ap (option_map (λ o. o.number)) e, none_some v.selected (or_false (x.number == 0) (is_some v.selected) f))))
    (so_first Q _ _ (so_unless Q (x.number == 0 || is_article_number profile.limit x.number) _ (or_false (x.number == 0) (is_article_number profile.limit x.number))) tt))
  where
    Q : Misfit → Type 0
    Q = Tells profile v (to (over keyword (the_id word))) (overviews_are lines)

-- the only overview, where nothing was named
so_unnamed : (profile : Profile) (v : Visible) (keyword : OverviewKeyword) (lines : List (List ℕ)) (why : Misfit) (o : Option OverviewValue) → only (overviews_of lines) ≡ o
    → Tells profile v (to (over keyword the_current)) (overviews_are lines) why
    → IfSome (overview_misfit profile v why current o) (Tells profile v (to (over keyword the_current)) (overviews_are lines))
so_unnamed profile v keyword lines why None e t = ap is_none e
so_unnamed profile v keyword lines why (Some x) e t = so_selected profile v (to (over keyword the_current)) (overviews_are lines) why x.number t

so_name : (profile : Profile) (v : Visible) (asked : Asked) (response : Response) (why : Misfit) (o : Option Name) (name : Name) (m : WaterMarks)
    → marked_by response ≡ Some (name, m) → asked_group v asked ≡ o → Tells profile v asked response why
    → IfSome (name_misfit why o name) (Tells profile v asked response)
so_name profile v asked response why o name m marked is t = grind arith

so_step_sent : (profile : Profile) (v : Visible) (asked : Asked) (sent : Success)
    → IfSome (step_sent_misfit profile v (code_misfit v asked sent.code) sent) (Tells profile v asked (sends sent))
so_step_sent profile v asked sent = grind arith

-- ---- answers

tells : (profile : Profile) (v : Visible) (asked : Asked) (response : Response) → IfSome (misfit profile v asked response) (Tells profile v asked response)
tells profile v greeting (plain code) = so_unless _ (is_greeting code) _ (λ e. (refl, refl))
tells profile v (to command) (plain code) = so_unless _ (is_generic code || code_fits v command code) _ (λ e. (refl, refl))
tells profile v (to (group word)) (group_is m name) =
    so_first Q (unless (is_same name word) (wrong_name name)) (marks_misfit profile v name m ∷ []) (so_unless Q (is_same name word) (wrong_name name) (λ e. (refl, e)))
    (so_first Q (marks_misfit profile v name m) [] (so_marks profile v (to (group word)) (group_is m name) name m refl refl) tt)
  where
    Q : Misfit → Type 0
    Q = Tells profile v (to (group word)) (group_is m name)
tells profile v (to (list_group word range)) (numbers_are m name lines) =
    so_first Q _ _ (so_name profile v asked response (code_misfit v asked 211) (option_or word v.selected) name m refl refl (refl, refl))
    (so_first Q _ _ (so_marks profile v asked response name m refl refl)
    (so_first Q _ _ (so_ascending profile v asked response)
    (so_first Q _ _ (so_within profile v asked response range (λ n. refl) (listed_numbers lines)) tt)))
  where
    asked : Asked
    asked = to (list_group word range)

    response : Response
    response = numbers_are m name lines

    Q : Misfit → Type 0
    Q = Tells profile v asked response
tells profile v (to next) (sends sent) = so_step_sent profile v (to next) sent
tells profile v (to last) (sends sent) = so_step_sent profile v (to last) sent
tells profile v (to (retrieve what which)) (sends sent) =
    so_first Q _ _ (so_unless Q (sent.code == success_code what) _ (λ e. (refl, refl)))
    (so_first Q _ _ (so_target profile v what which sent (code_misfit v asked sent.code) (refl, refl))
    (so_first Q _ _ (so_head profile v what which sent sent.block refl) tt))
  where
    asked : Asked
    asked = to (retrieve what which)

    Q : Misfit → Type 0
    Q = Tells profile v asked (sends sent)
tells profile v (to (list_active p)) (active_are lines) =
    so_first Q (first (map (active_misfit profile p) (active_groups lines))) (twice_misfit [] (group_names (active_groups lines)) ∷ [])
    (so_actives profile v (active_are lines) p (active_groups lines) (λ name e. e))
    (so_first Q (twice_misfit [] (group_names (active_groups lines))) [] (so_words profile v (to (list_active p)) (active_are lines)) tt)
  where
    Q : Misfit → Type 0
    Q = Tells profile v (to (list_active p)) (active_are lines)
tells profile v asked (group_is m name) = (refl, refl)
tells profile v asked (numbers_are m name lines) = (refl, refl)
tells profile v asked (sends sent) = (refl, refl)
tells profile v asked (active_are lines) = (refl, refl)
tells profile v (to (over keyword (in_range range))) (overviews_are lines) =
    so_first Q _ _ (so_unless Q (is_some v.selected) _ (λ e. (refl, refl)))
    (so_first Q _ _ (so_unless Q (may_list keyword (overviews_of lines)) _ (λ e. ap not e))
    (so_first Q _ _ (so_ascending profile v asked (overviews_are lines))
    (so_first Q _ _ (so_within profile v asked (overviews_are lines) range (λ n. refl) (overview_numbers (overviews_of lines)))
    (so_first Q _ _ (so_words profile v asked (overviews_are lines)) tt))))
  where
    asked : Asked
    asked = to (over keyword (in_range range))

    Q : Misfit → Type 0
    Q = Tells profile v asked (overviews_are lines)
tells profile v (to (over keyword (the_id word))) (overviews_are lines) =
    so_named profile v keyword word lines (code_misfit v (to (over keyword (the_id word))) (overview_code keyword)) (only (overviews_of lines)) refl
tells profile v (to (over keyword the_current)) (overviews_are lines) =
    so_first Q _ _ (so_unless Q (is_some v.selected) _ (λ e. (refl, refl)))
    (so_first Q _ _ (so_unnamed profile v keyword lines (code_misfit v (to (over keyword the_current)) (overview_code keyword)) (only (overviews_of lines)) refl (refl, refl)) tt)
  where
    Q : Misfit → Type 0
    Q = Tells profile v (to (over keyword the_current)) (overviews_are lines)
tells profile v asked (overviews_are lines) = (refl, refl)

pub so : (profile : Profile) (v : Visible) (asked : Asked) (response : Response) (why : Misfit) → misfit profile v asked response ≡ Some why → Tells profile v asked response why
so profile v asked response why e = subst (λ o. IfSome o (Tells profile v asked response)) e (tells profile v asked response)
