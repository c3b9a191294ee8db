-- Message ids and group names.
use Rattle.std.{proofs.Common.{◌≡◌, ℕ, Bool, true, false, List, [], ◌∷◌, ◌++◌, replicate, refl}, specs.{Prelude.{codes}, Char.{encode_utf8}, Str.{chars}}}
use Rattle.std.specs.Str.{is_utf8}
use Rattle.nntp_wire.{specs.{Name.{IsMessageId}, Decided.{is_message_id, is_group_name}}, proofs.DecidedLemmas.{message_id-iff}}
use Rattle.nntp_unit_tests.proofs.Rows.{Makes}

-- ---- message ids

abbrev ids : List (List ℕ × Bool)
ids =
    (codes "<a>", true)
    ∷ (codes "<<>", true)
    ∷ (codes "<>", false)
    ∷ (codes "<a>b>", false)
    ∷ (codes "<a b>", false)
    ∷ (codes "<a" ++ 0x7F ∷ codes ">", false)
    ∷ (codes "a>", false)
    ∷ (codes "<a", false)
    ∷ []

message_ids : Makes is_message_id ids
message_ids = refl

-- the id of so many letters
abbrev id_of : ℕ → List ℕ
id_of count = codes "<" ++ replicate count 97 ++ codes ">"

id_of_250_octets : IsMessageId (id_of 248)
id_of_250_octets = (message_id-iff (id_of 248)).0 refl

no_id_of_251_octets : is_message_id (id_of 249) ≡ false
no_id_of_251_octets = refl

-- ---- group names

abbrev names : List (List ℕ × Bool)
names =
    (codes "comp.x", true)
    ∷ (codes "g", true)
    -- characters of two octets and of four
    ∷ (0xC3 ∷ 0xA9 ∷ [], true)
    ∷ (0xF0 ∷ 0x9F ∷ 0x98 ∷ 0x80 ∷ [], true)
    ∷ (codes "", false)
    ∷ (codes "a,b", false)
    ∷ (codes "a b", false)
    ∷ (codes "a*", false)
    -- no UTF-8: an octet that never stands there, a cut character, an overlong one, a surrogate
    ∷ (0xFF ∷ [], false)
    ∷ (codes "a" ++ 0xC3 ∷ [], false)
    ∷ (0xC0 ∷ 0xAF ∷ [], false)
    ∷ (0xED ∷ 0xA0 ∷ 0x80 ∷ [], false)
    ∷ []

group_names : Makes is_group_name names
unfolding chars is_utf8 encode_utf8
group_names = refl
