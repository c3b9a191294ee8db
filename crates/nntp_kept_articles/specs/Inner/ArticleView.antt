-- What the code's values keep of articles.
use Rattle.std.specs.{Prelude.{Bool, true, false, List, Option, None, Some, option_map, map, refl}, Option.{option_or}, Coded.{Coded, code_by, coded×, coded_ℕ}}
use Rattle.std.specs.{Coded.{coded_list, coded_option, coded_bool}, declared.{boxed.Box.{Box}, rc.{Rc.{Rc}, RcStr.{RcStr}}}, Rc.{rc_str_bytes}}
use Rattle.std.specs.{Ordering.{nat_cmp}, Cmp.Lexicographic.{slice_cmp}, FinMap.{FinMap}}
use Rattle.nntp_article.specs.{Article.{Parts.{Id, Line}, Fields.{fields_of_head}}, Inner.ShownMap.{shown, shown_entry}}
use Rattle.nntp_wire.specs.Listing.{Fields}
use Rattle.nntp_kept_articles.specs.{Inner.Articles.{KeptArticle, unsent, telling}, declared.known.KnownArticle.{KnownArticle, TheVariants.{Unsent, Listed}}}
use Rattle.nntp_kept_articles.specs.declared.{known.KnownArticle.TheVariants.{Named, Told, Head, Body, ToldBody, Whole}, added.Added.{Added}}
use Rattle.nntp_kept_articles.specs.declared.added.Added.TheVariants.{Never}
use Rattle.nntp_kept_articles.specs.declared.added.Added.TheVariants as adds

-- the lines of a block that is held, if there is one
abbrev pub lines_held : {A : Type 0} → Option (Rc (List Line) A) → Option (List Line)
lines_held held = option_map (λ block. block.value) held

-- what overviews told that is held, if they told
abbrev pub fields_kept : {A : Type 0} → Option (Box Fields A) → Option Fields
fields_kept held = option_map (λ told. told.value) held

-- what is kept of an article that a success named: these lines of its head were sent, or else overviews told this, and these of its body were sent
abbrev pub of_parts : Option (List Line) → Option Fields → Option (List Line) → KeptArticle
of_parts head told body = record { is_denied = false; is_sent = true; head = head; fields = option_or (option_map fields_of_head head) told; body = body }

-- what is kept of an article
abbrev pub known_article : {A : Type 0} → KnownArticle A → KeptArticle
known_article Unsent = unsent
known_article (Listed told) = telling false (Some told.value)
known_article Named = telling true None
known_article (Told told) = telling true (Some told.value)
known_article (Head head) = of_parts (Some head.value) None None
known_article (Body body) = of_parts None None (Some body.value)
known_article (ToldBody article) = of_parts None (Some article.value.told.value) (Some article.value.body.value)
known_article (Whole lines) = of_parts (Some lines.value.head.value) None (Some lines.value.body.value)

-- what overviews told, where no head was sent
abbrev pub fields_held : {A : Type 0} → KnownArticle A → Option Fields
fields_held (Listed told) = Some told.value
fields_held (Told told) = Some told.value
fields_held (ToldBody article) = Some article.value.told.value
fields_held article = None

-- what is kept of articles, one after the other
abbrev pub entries_value : {A : Type 0} → List (RcStr A × KnownArticle A) → List (Id × KeptArticle)
entries_value entries = map (shown_entry rc_str_bytes (λ article. known_article article)) entries

-- what is kept of articles, by their ids
abbrev pub articles_known : {A : Type 0} → List (RcStr A × KnownArticle A) → FinMap (slice_cmp nat_cmp) KeptArticle
articles_known entries = shown (slice_cmp nat_cmp) rc_str_bytes (λ article. known_article article) entries

-- what is said of an id is added
abbrev pub is_added : {A : Type 0} → Added A → Bool
is_added Never = false
is_added added = true

-- the octets of the text that is handed back
abbrev pub text_of : {A : Type 0} → Added A → Option Id
text_of (adds.Named text) = Some (rc_str_bytes text)
text_of added = None

-- lines, if there are such
abbrev pub coded_lines : Coded (Option (List Line))
coded_lines = coded_option (coded_list (coded_list coded_ℕ))

abbrev pub coded_fields : Coded Fields
coded_fields =
    code_by _ (coded× (coded× (coded_list (coded_list coded_ℕ)) (coded_list (coded_list coded_ℕ))) (coded× (coded_list (coded_list coded_ℕ)) (coded_list (coded_list coded_ℕ))))
    (λ f. ((f.subject, f.from), (f.date, f.references)))
    (λ p. record { subject = p.0.0; from = p.0.1; date = p.1.0; references = p.1.1 }) (λ _. refl)

abbrev pub coded_kept : Coded KeptArticle
coded_kept =
    code_by _ (coded× (coded× coded_bool coded_bool) (coded× coded_lines (coded× (coded_option coded_fields) coded_lines)))
    (λ a. ((a.is_denied, a.is_sent), (a.head, (a.fields, a.body))))
    (λ p. record { is_denied = p.0.0; is_sent = p.0.1; head = p.1.0; fields = p.1.1.0; body = p.1.1.1 }) (λ _. refl)
