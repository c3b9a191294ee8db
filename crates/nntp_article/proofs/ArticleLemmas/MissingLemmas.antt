-- The required headers, header by header.
use Rattle.std.{proofs.Common.{◌≡◌, ℕ, Bool, List, ◌∷◌, refl, arith}, specs.Prelude.{◌&&◌, not, codes}}
use Rattle.nntp_article.specs.{Article.{Parts.{Header, is_named}, Required.{lacks}}, declared.article.missing_headers.Missing.{Missing}}

-- what is missing beside these headers too
abbrev pub still : Missing → List Header → Missing
still missing headers = record {
  from = missing.from && lacks headers (codes "From");
  date = missing.date && lacks headers (codes "Date");
  newsgroups = missing.newsgroups && lacks headers (codes "Newsgroups");
  subject = missing.subject && lacks headers (codes "Subject");
  message_id = missing.message_id && lacks headers (codes "Message-ID");
  path = missing.path && lacks headers (codes "Path");
}

-- one header more
pub lacks-more : (before now : Bool) (name : List ℕ) (header : Header) (headers : List Header)
    → now ≡ (before && not (is_named name header)) → (now && lacks headers name) ≡ (before && lacks (header ∷ headers) name)
lacks-more before now name header headers e = grind arith

same_flags : {a b c d e f t u v w x y : Bool} → a ≡ t → b ≡ u → c ≡ v → d ≡ w → e ≡ x → f ≡ y
    → record { from = a; date = b; newsgroups = c; subject = d; message_id = e; path = f } ≡
    (let m : Missing = record { from = t; date = u; newsgroups = v; subject = w; message_id = x; path = y } in m)
same_flags p q r s t u = rw (p, q, r, s, t, u) refl

pub still-more : (before now : Missing) (header : Header) (headers : List Header)
    → now.from ≡ (before.from && not (is_named (codes "From") header))
    → now.date ≡ (before.date && not (is_named (codes "Date") header))
    → now.newsgroups ≡ (before.newsgroups && not (is_named (codes "Newsgroups") header))
    → now.subject ≡ (before.subject && not (is_named (codes "Subject") header))
    → now.message_id ≡ (before.message_id && not (is_named (codes "Message-ID") header))
    → now.path ≡ (before.path && not (is_named (codes "Path") header))
    → still now headers ≡ still before (header ∷ headers)
still-more before now header headers p q r s t u = grind (arith, same_flags, lacks-more)
