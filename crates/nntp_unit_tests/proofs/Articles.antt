-- Heads, bodies and headers, and what they say.
use Rattle.std.{proofs.Common.{◌≡◌, Bool, true, false, List, [], ◌∷◌, ◌++◌, Option, None, Some, map, refl}, specs.{Prelude.{codes}, List.{list_any}}}
use Rattle.std.specs.{Char.{encode_utf8}, Str.{chars, is_utf8}}
use Rattle.nntp_article.specs.Article.Parts.{Line, Id, is_empty, head_part, body_part, headers, is_head, is_clean_head, name_of, content_of, said_id}
use Rattle.nntp_article.specs.Article.{Control.{ControlValue, cancel, new_group, rm_group, other, controls_of}, Required.{missing_of}}
use Rattle.nntp_article.specs.declared.article.missing_headers.Missing.{Missing}
use Rattle.nntp_unit_tests.proofs.Rows.{Makes}

-- ---- heads

abbrev heads : List (List Line × Bool)
heads =
    ([], false)
    ∷ (codes "a: b" ∷ [], true)
    ∷ (codes "a:" ∷ [], true)
    ∷ (codes " a: b" ∷ [], false)
    ∷ (codes "\ta: b" ∷ [], false)
    ∷ (codes ": x" ∷ [], false)
    ∷ (codes "a b: x" ∷ [], false)
    ∷ (codes "a\tb: x" ∷ [], false)
    ∷ ((codes "a" ++ 0x7F ∷ codes ": x") ∷ [], false)
    ∷ ((codes "a" ++ 0xC3 ∷ 0xA9 ∷ codes ": x") ∷ [], false)
    ∷ (codes "a" ∷ [], false)
    ∷ (codes "a: b" ∷ [] ∷ [], false)
    ∷ (codes "a: b" ∷ [] ∷ codes "c: d" ∷ [], false)
    ∷ (codes "a: b" ∷ codes " c" ∷ codes "\td" ∷ [], true)
    ∷ (codes "a: b" ∷ codes " " ∷ [], true)
    ∷ (codes "a: b" ∷ codes "c: d" ∷ [], true)
    ∷ ((codes "Subject: caf" ++ 0xC3 ∷ 0xA9 ∷ 0x20 ∷ 0xFF ∷ []) ∷ [], true)
    ∷ []

lines_of_heads : Makes is_head heads
lines_of_heads = refl

-- lines of a head that hold no NUL, CR or LF
abbrev clean_heads : List (List Line × Bool)
clean_heads =
    (codes "Subject: s" ∷ [], true)
    ∷ ([], false)
    ∷ (codes " a: b" ∷ codes "Message-ID: <a@b>" ∷ [], false)
    ∷ (codes "Message-ID: <a@b>" ∷ [] ∷ [], false)
    ∷ (codes "Message-ID: <a@b>" ∷ codes "Subject: a\rb" ∷ [], false)
    ∷ []

clean_lines_of_heads : Makes is_clean_head clean_heads
clean_lines_of_heads = refl

-- ---- the two parts of an article

abbrev articles : List (List Line × (List Line × List Line))
articles =
    (codes "a: b" ∷ [] ∷ [] ∷ codes "x" ∷ [], (codes "a: b" ∷ [], [] ∷ codes "x" ∷ []))
    ∷ (codes "a: b" ∷ [] ∷ [], (codes "a: b" ∷ [], []))
    ∷ (codes "a: b" ∷ [] ∷ [] ∷ [] ∷ [], (codes "a: b" ∷ [], [] ∷ [] ∷ []))
    ∷ (codes "a: b" ∷ [] ∷ codes "." ∷ codes "..x" ∷ [], (codes "a: b" ∷ [], codes "." ∷ codes "..x" ∷ []))
    ∷ ([] ∷ codes "x" ∷ [], ([], codes "x" ∷ []))
    ∷ []

parts : Makes (λ lines. (head_part lines, body_part lines)) articles
parts = refl

no_empty_line : list_any is_empty (codes "a: b" ∷ codes "x" ∷ []) ≡ false
no_empty_line = refl

-- ---- headers

abbrev head : List Line
head = codes "From: a:b" ∷ codes "Subject:\tone " ∷ codes "  two\t" ∷ codes "\tthree " ∷ codes " " ∷ codes "X-y:" ∷ []

headers_in_order : headers head
    ≡ (codes "From: a:b" ∷ [])
    ∷ (codes "Subject:\tone " ∷ codes "  two\t" ∷ codes "\tthree " ∷ codes " " ∷ [])
    ∷ (codes "X-y:" ∷ [])
    ∷ []
headers_in_order = refl

names : map name_of (headers head) ≡ codes "From" ∷ codes "Subject" ∷ codes "X-y" ∷ []
names = refl

contents : map content_of (headers head) ≡ codes "a:b" ∷ codes "one   two\t\tthree" ∷ [] ∷ []
contents = refl

-- ---- the id that a head says

abbrev id : Option Id
id = Some (codes "<a@b>")

abbrev heads_with_ids : List (List Line × Option Id)
heads_with_ids =
    (codes "message-id:<a@b>" ∷ [], id)
    ∷ (codes "From: x" ∷ codes "MESSAGE-ID: <a@b>" ∷ codes "Date: y" ∷ codes " z" ∷ [], id)
    ∷ (codes "Message-ID:\t <a@b>\t " ∷ [], id)
    ∷ (codes "Message-ID:" ∷ codes " <a@b>" ∷ [], id)
    ∷ (codes "From: x" ∷ codes "Message-ID:" ∷ codes "\t<a@b>" ∷ [], id)
    ∷ (codes "Message-ID:" ∷ codes " " ∷ codes "\t<a@b>" ∷ codes " \t" ∷ [], id)
    ∷ (codes "Message-ID: <a@b>" ∷ codes " " ∷ [], id)
    ∷ (codes "Message-ID: <a@b> x" ∷ [], None)
    ∷ (codes "Message-ID: <a@b>" ∷ codes " x" ∷ [], None)
    ∷ (codes "Message-ID: <a" ∷ codes " @b>" ∷ [], None)
    ∷ (codes "Message-ID: <a@b>" ∷ codes "Message-ID: <a@b>" ∷ [], None)
    ∷ (codes "Message-ID: <a@b>" ∷ codes "Message-ID: <c@d>" ∷ [], None)
    ∷ (codes "Message-ID: x" ∷ codes "message-id: <a@b>" ∷ [], None)
    ∷ (codes "Message-ID:" ∷ [], None)
    ∷ (codes "Message-ID: a@b" ∷ [], None)
    ∷ (codes "Message-ID: <>" ∷ [], None)
    ∷ (codes "From: <a@b>" ∷ [], None)
    ∷ []

ids_of_heads : Makes said_id heads_with_ids
ids_of_heads = refl

-- ---- control messages

abbrev controls : List (List Line × List ControlValue)
controls =
    (codes "Control: newgroup comp.x moderated" ∷ [], new_group (codes "comp.x") true ∷ [])
    ∷ (codes "Control: newgroup comp.x Moderated" ∷ [], other (codes "newgroup comp.x Moderated") ∷ [])
    ∷ (codes "Control:newgroup\t comp.x " ∷ [], new_group (codes "comp.x") false ∷ [])
    ∷ (codes "Control: newgroup a,b" ∷ [], other (codes "newgroup a,b") ∷ [])
    ∷ (codes "Control: newgroup comp.x moderated x" ∷ [], other (codes "newgroup comp.x moderated x") ∷ [])
    ∷ (codes "Control:cancel" ∷ codes " <a@b>" ∷ [], cancel (codes "<a@b>") ∷ [])
    ∷ (codes "Control: Cancel <a@b>" ∷ [], other (codes "Cancel <a@b>") ∷ [])
    ∷ (codes "Control: cancel <a@b> <c@d>" ∷ [], other (codes "cancel <a@b> <c@d>") ∷ [])
    ∷ (codes "Control: cancel a@b" ∷ [], other (codes "cancel a@b") ∷ [])
    ∷ (codes "Control: cancel" ∷ [], other (codes "cancel") ∷ [])
    ∷ (codes "CONTROL: rmgroup g" ∷ [], rm_group (codes "g") ∷ [])
    ∷ (codes "Control: rmgroup g moderated" ∷ [], other (codes "rmgroup g moderated") ∷ [])
    ∷ ((codes "Control: newgroup gr" ++ 0xC3 ∷ 0xBC ∷ codes "n") ∷ [], new_group (codes "gr" ++ 0xC3 ∷ 0xBC ∷ codes "n") false ∷ [])
    ∷ ((codes "Control: newgroup " ++ 0xFF ∷ []) ∷ [], other (codes "newgroup " ++ 0xFF ∷ []) ∷ [])
    ∷ (codes "Control: sendsys" ∷ codes "  now" ∷ [], other (codes "sendsys  now") ∷ [])
    ∷ (codes "Control: \t" ∷ [], other [] ∷ [])
    ∷ (codes "control: rmgroup g" ∷ codes "Subject: cmsg cancel <a@b>" ∷ codes "Control:" ∷ [], rm_group (codes "g") ∷ other [] ∷ [])
    ∷ (codes "Subject: s" ∷ [], [])
    ∷ []

control_messages : Makes controls_of controls
unfolding chars is_utf8 encode_utf8
control_messages = refl

-- ---- headers that have to be there

-- which of them are missing
abbrev lacking : Bool → Bool → Bool → Bool → Bool → Bool → Missing
lacking from date newsgroups subject message_id path = record { from = from; date = date; newsgroups = newsgroups; subject = subject; message_id = message_id; path = path }

abbrev required : List (List Line × Missing)
required =
    (codes "X: y" ∷ [], lacking true true true true true true)
    ∷ (codes "Path: p" ∷ codes "from: a" ∷ codes "DATE:" ∷ codes "Newsgroups: g" ∷ codes "subject: s" ∷ codes "Message-Id: x" ∷ [], lacking false false false false false false)
    ∷ (codes "Control: cancel" ∷ codes " <a@b>" ∷ codes "Message-ID: <c@x>" ∷ [], lacking true true true true false true)
    ∷ (codes "X: y" ∷ codes " From: a" ∷ codes "Subject: s" ∷ codes "Subject: t" ∷ [], lacking true true true false true true)
    ∷ []

required_headers : Makes missing_of required
required_headers = refl
