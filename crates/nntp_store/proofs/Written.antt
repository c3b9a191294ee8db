-- What a writer took after several calls.
use Rattle.std.proofs.Common.{arith, ◌≡◌, ℕ, List, [], ◌∷◌, ◌++◌, Option, Result, Ok, Err, take, drop, subst, map as list_map, refl, sym, ap, ◌∙◌, append_assoc}
use Rattle.std.{proofs.lemmas.List.{append-nil, take-append-drop, Concat.{flat_map-append}}, specs.{Io.KnownBytes.{Appends}, List.{flat_map}, Prelude.{String}}}
use Rattle.std.specs.{Prelude.{IsErr, IsErrAnd}, Rc.{rc_str_bytes}, String.{string_bytes}, declared.rc.RcStr.{RcStr}}
use Rattle.nntp_wire.specs.declared.limit.Limit.{Limit}
use Rattle.nntp_article.specs.Session.Spool.{Spool, Numbers}
use Rattle.nntp_content.specs.{Inner.ArticleLines.{text_stored}, declared.article.StoredArticle.{StoredArticle}}
use Rattle.nntp_store.specs.{Inner.{Buffering.{Puts, waiting}, Writing.{WritesBut}}, Limited.{LimitedSpool}, Text.{with_line_ends, number_line, limit_lines}}
use Rattle.nntp_store.specs.{Text.{content_lines, spool_text, group_lines, article_lines}, Watched.{inner_of}, Writing.{Wrote}}
use Rattle.nntp_store.specs.declared.{buffered_output.BufferedOutput.{BufferedOutput}, output.WriteFault.{WriteFault}, watched.Watched.{Watched}}

Appends-then : (a b c : Option (List ℕ)) (x y : List ℕ) → Appends a b x → Appends b c y → Appends a c (x ++ y)
Appends-then a b c x y h g = grind (arith, append_assoc)

Wrote-start : (a : Option (List ℕ)) (whole : List ℕ) → Wrote a a whole whole
Wrote-start a whole = ([], refl, grind (arith, append-nil))

-- a call stopped before this rest of what waited and its octets
pub Wrote-on : (a b c : Option (List ℕ)) (whole waiting x y rest : List ℕ) → Wrote a b whole (waiting ++ (x ++ y)) → Wrote b c (waiting ++ x) rest → Wrote a c whole (rest ++ y)
Wrote-on a b c whole waiting x y rest h g = grind (arith, append_assoc, Appends-then)

pub Wrote-take : (a b c : Option (List ℕ)) (whole rest : List ℕ) (n : ℕ) → Wrote a b whole rest → Appends b c (take n rest) → Wrote a c whole (drop n rest)
Wrote-take a b c whole rest n h g = search (arith, take-append-drop, append_assoc, Appends-then)

-- a call that is to write all that is left
pub Wrote-last : (a b c : Option (List ℕ)) (whole y rest : List ℕ) → Wrote a b whole y → Wrote b c y rest → Wrote a c whole rest
Wrote-last a b c whole y rest h g = grind (arith, append_assoc, Appends-then)

pub Writes-last : {A E : Type 0} (r : Result A E) (a b c : Option (List ℕ)) (whole y rest : List ℕ) → Wrote a b whole y → WritesBut r b c y rest → WritesBut r a c whole rest
Writes-last (Ok x) a b c whole y rest h g = Wrote-last a b c whole y rest h g
Writes-last (Err e) a b c whole y rest h g = (g.0, Wrote-last a b c whole y g.0 h g.1)

-- a call that stops with an error wrote a front of it
pub stopped : {A E : Type 0} (r : Result A E) (Q : E → Type 0) (a b : Option (List ℕ)) (whole rest : List ℕ) → IsErrAnd r Q → (left : List ℕ) × Wrote a b whole left → WritesBut r a b whole rest
stopped r Q a b whole rest never w = grind arith

-- the first of several calls
pub Wrote-first : (a b : Option (List ℕ)) (waiting x y rest : List ℕ) → Wrote a b (waiting ++ x) rest → Wrote a b (waiting ++ (x ++ y)) (rest ++ y)
Wrote-first a b waiting x y rest g = Wrote-on a a b (waiting ++ (x ++ y)) waiting x y rest (Wrote-start a (waiting ++ (x ++ y))) g

-- the same of the writer at the end, where that is this one
pub Writes-at : {A E W : Type 0} (told : W → Option (List ℕ)) (r : Result A E) (a : Option (List ℕ)) (left : Watched W) (whole rest : List ℕ)
    → WritesBut r a (told (inner_of left)) whole rest → (end : Watched W) → end ≡ left → WritesBut r a (told (inner_of end)) whole rest
Writes-at told r a left whole rest g end e = subst (λ (w : Watched _). WritesBut r a (told (inner_of w)) whole rest) (sym e) g

-- ---- lines

pub with_line_ends-cons : (line : List ℕ) (lines : List (List ℕ)) → with_line_ends (line ∷ lines) ≡ with_line_ends (line ∷ []) ++ with_line_ends lines
with_line_ends-cons line lines = ap (λ (t : List ℕ). t ++ with_line_ends lines) (sym (append-nil (line ++ 10 ∷ [])))

pub with_line_ends-append : (xs ys : List (List ℕ)) → with_line_ends (xs ++ ys) ≡ with_line_ends xs ++ with_line_ends ys
with_line_ends-append xs ys = flat_map-append (λ line. line ++ 10 ∷ []) xs ys

-- the same for lines
pub Lines-first : (a b : Option (List ℕ)) (waiting : List ℕ) (xs ys : List (List ℕ)) (rest : List ℕ)
    → Wrote a b (waiting ++ with_line_ends xs) rest → Wrote a b (waiting ++ with_line_ends (xs ++ ys)) (rest ++ with_line_ends ys)
Lines-first a b waiting xs ys rest g = grind (arith, with_line_ends-append xs ys, Wrote-first a b waiting (with_line_ends xs) (with_line_ends ys) rest g)

-- the lines of a spool's limit, where nothing waits before them
pub Limit-first : (start a b : Option (List ℕ)) (waiting : List ℕ) (limit : Limit) (L : LimitedSpool) (S : Spool) (rest : List ℕ)
    → a ≡ start → waiting ≡ [] → limit ≡ L.limit → S ≡ L.spool
    → Wrote a b (waiting ++ with_line_ends (limit_lines limit)) rest → Wrote start b (spool_text L) (rest ++ with_line_ends (content_lines S))
Limit-first start a b waiting limit L S rest same none e f g = grind (arith, Lines-first a b waiting (limit_lines L.limit) (content_lines S) rest)

-- ---- the texts of what is listed

abbrev pub text_of_articles : {A : Type 0} → List (RcStr A × StoredArticle A) → List ℕ
text_of_articles es = with_line_ends (flat_map article_lines (list_map (λ e. (rc_str_bytes e.0, text_stored e.1)) es))

abbrev pub text_of_groups : {A : Type 0} → List (String A × Numbers) → List ℕ
text_of_groups es = with_line_ends (flat_map group_lines (list_map (λ e. (string_bytes e.0, e.1)) es))

abbrev pub text_of_numbers : {A : Type 0} → List (ℕ × RcStr A) → List ℕ
text_of_numbers es = with_line_ends (list_map (λ (e : ℕ × List ℕ). number_line e.0 e.1) (list_map (λ e. (e.0, rc_str_bytes e.1)) es))

-- ---- calls one after the other

module _ {W : Type 0} (told : W → Option (List ℕ)) (a : BufferedOutput W) (whole : List ℕ) where
  -- where nothing is left, nothing is put there
  pub Puts-end : whole ≡ [] → Puts told (Ok tt) a a whole
  Puts-end none = rw none (record { text = grind (arith, append-nil, Wrote-start); failed = grind arith; same_writer = refl })

  -- a call put a front there, and this is left
  module _ (b : BufferedOutput W) (front rest : List ℕ) (parts : whole ≡ front ++ rest) where
    -- what comes after it puts the rest there
    pub Puts-on : (u : Unit {0}) → Puts told (Ok u) a b front → (r : _) (c : BufferedOutput W) → Puts told r b c rest → Puts told r a c whole
    Puts-on u f r c g = rw parts (record {
      text = Writes-last r _ _ _ _ _ _ (Wrote-first _ _ (waiting a) front rest _ f.text) g.text;
      failed = grind (arith, f.failed, g.failed);
      same_writer = g.same_writer ∙ f.same_writer;
    })

    -- after a fault a front of the whole is put there
    pub Puts-until : (e : WriteFault) → Puts told (Err e) a b front → (r : _) → IsErr r → Puts told r a b whole
    Puts-until e f (Err n) is = rw parts (record { text = (_, Wrote-first _ _ (waiting a) front rest _ f.text.1); failed = f.failed; same_writer = f.same_writer })
    Puts-until e f (Ok n) is = absurd cc
