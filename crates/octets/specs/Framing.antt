-- The record at the front of a text: "a two-byte mark, 16-bit length (high octet first), body" (document 01, "The sheet" and "Answers and records").
-- Where a text is too short for it, what is there counts; `is_whole` tells.
use Rattle.std.specs.Prelude.{Bool, ℕ, ◌+◌, ◌*◌, leb, length, take, drop, get_or}
use Rattle.octets.specs.Octets.{Octets}

-- "a two-byte mark"
unfoldable pub mark_of : Octets → Octets
mark_of t = take 2 t

-- "16-bit length (high octet first)"
unfoldable pub size_of : Octets → ℕ
size_of t = get_or t 2 0 * 256 + get_or t 3 0

-- "body"
unfoldable pub body_of : Octets → Octets
body_of t = take (size_of t) (drop 4 t)

-- what follows the record
unfoldable pub after_record : Octets → Octets
after_record t = drop (4 + size_of t) t

-- whether mark, length and body are all there: not "past the end", no "octets left over"
unfoldable pub is_whole : Octets → Bool
is_whole t = leb (4 + size_of t) (length t)
