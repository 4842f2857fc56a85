-- What a memory over a lent row holds in it now. Contracts cite these functions, since the field `row` is private. No `impl Model` stands in
-- their place: a clause would then compare memories by their rows alone, and a refused call promises the memory itself as it was.
use Rattle.std.specs.Prelude.{ℕ, List}
use Rattle.memory.specs.declared.byte.ByteMemory.{ByteMemory}
use Rattle.memory.specs.declared.word.WordMemory.{WordMemory}

-- the words in a word memory's row
abbrev pub words_in : WordMemory → List ℕ
words_in m = m.row.now

-- all bytes in a byte memory's row, also those that belong to no word
abbrev pub bytes_in : ByteMemory → List ℕ
bytes_in m = m.row.now
