-- Helper. Tables of the code as those of the definitions, and sets of kinds as tests. No public contract cites these.
use Rattle.std.specs.Prelude.{ℕ, Bool, false, List, Option, map, option_map, slice_index_or}
use Rattle.std.specs.Borrow.{Bor}
use Rattle.edi_explain.specs.declared.expected.after.Expected.{Expected}
use Rattle.edi_explain.specs.declared.told.notes.Seen as code_seen
use Rattle.edi_explain.specs.declared.told.table.Row as code_row
use Rattle.edi_explain.specs.told.Names.{Found}
use Rattle.edi_explain.specs.told.Notes.{Seen, Row}
use Rattle.edi_explain.specs.told.Words.{Text}

abbrev pub texts_of : List (Bor (List ℕ)) → List (List ℕ)
texts_of table = map (λ (b : Bor (List ℕ)). b.now) table

-- two texts side by side, as constants are
abbrev pub rows_beside : List (Bor (List ℕ) × Bor (List ℕ)) → List (Text × Text)
rows_beside table = map (λ (b : Bor (List ℕ) × Bor (List ℕ)). (record { now = b.0.now }, record { now = b.1.now })) table

-- two lists side by side
abbrev pub pairs_of : List (Bor (List ℕ) × Bor (List ℕ)) → List (List ℕ × List ℕ)
pairs_of table = map (λ (b : Bor (List ℕ) × Bor (List ℕ)). (b.0.now, b.1.now)) table

-- a name with its index
abbrev pub found_of : Option (ℕ × Bor (List ℕ)) → Found
found_of found = option_map (λ (p : ℕ × Bor (List ℕ)). (p.0, p.1.now)) found

-- the kinds that may stand, as a test
abbrev pub may_of : Expected → ℕ → Bool
may_of e k = slice_index_or e.kinds k false

abbrev pub row_of : code_row.Row → Row
row_of r = record {
  found = r.found.now;
  last = r.last.now;
  inside = r.inside.now;
  may = r.may.now;
  not_these = r.not_these.now;
  quoted = r.quoted;
  note = r.note.now;
}

abbrev pub rows_of : List code_row.Row → List Row
rows_of table = map row_of table

abbrev pub seen_of : code_seen.Seen → Seen
seen_of s = record { found = s.found; last = s.last; inside = s.inside; may = may_of s.may; quoted = s.quoted }
