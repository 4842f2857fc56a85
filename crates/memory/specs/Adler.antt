-- Adler-32 of a list of words. The low half of the checksum adds up the bytes, the high half adds up the low
-- halves, both modulo 65,521, the largest prime below 65,536. It begins at 1.
use Rattle.std.specs.Prelude.{ℕ, ◌+◌, ◌*◌, ◌/◌, ◌%◌, List, fold}
use Rattle.std.specs.Int.{byte_at}

-- the checksum after one more byte
unfoldable pub with_byte : ℕ → ℕ → ℕ
with_byte sum b =
    let low : ℕ = (sum % 65536 + b) % 65521 in
    let high : ℕ = (sum / 65536 + low) % 65521 in
    high * 65536 + low

-- the checksum after the four bytes of one more word, lowest first
abbrev pub with_word_bytes : ℕ → ℕ → ℕ
with_word_bytes sum w = with_byte (with_byte (with_byte (with_byte sum (byte_at 0 w)) (byte_at 1 w)) (byte_at 2 w)) (byte_at 3 w)

abbrev pub adler32 : List ℕ → ℕ
adler32 ws = fold with_word_bytes 1 ws
