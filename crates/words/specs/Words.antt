-- The words that are lent, all of 32 bits (01, Words that are lent). A packed word is a high part over a low part of k bits.
use Rattle.std.specs.Prelude.{ℕ, ◌+◌, ◌-◌, ◌*◌, ◌/◌, ◌%◌, ◌^◌, List, [], ◌∷◌, get_or}
use Rattle.words.specs.declared.node.Node.{Node}
use Rattle.words.specs.declared.report.Report.{Report}

-- What doesn't fit its part is cut off.
unfoldable pub pack : ℕ → ℕ → ℕ → ℕ
pack k high low = high % 2 ^ (32 - k) * 2 ^ k + low % 2 ^ k

unfoldable pub high : ℕ → ℕ → ℕ
high k w = w / 2 ^ k

unfoldable pub low : ℕ → ℕ → ℕ
low k w = w % 2 ^ k

-- Token: "top 7 bits the kind .., low 25 the source end".
abbrev pub token_word : ℕ → ℕ → ℕ
token_word kind end = pack 25 kind end

abbrev pub token_kind : ℕ → ℕ
token_kind w = high 25 w

abbrev pub token_end : ℕ → ℕ
token_end w = low 25 w

-- Node, first word: "top 6 bits the kind .. with a 26-bit payload".
abbrev pub node_head : ℕ → ℕ → ℕ
node_head kind payload = pack 26 kind payload

abbrev pub node_kind : ℕ → ℕ
node_kind w = high 26 w

abbrev pub node_payload : ℕ → ℕ
node_payload w = low 26 w

-- "Node, five words: top 6 bits the kind .. with a 26-bit payload; first token; end token; next sibling; first child." "A node gets a sixth word,
-- its parent" (01, W3).
abbrev pub node_width : ℕ
node_width = 6

abbrev pub node_words : Node → List ℕ
node_words n = node_head n.kind n.payload ∷ n.first ∷ n.end ∷ n.next ∷ n.child ∷ n.parent ∷ []

-- The node that a list of words begins with; a word past the end is 0.
abbrev pub node_of : List ℕ → Node
node_of ws =
    record {
      kind = node_kind (get_or ws 0 0);
      payload = node_payload (get_or ws 0 0);
      first = get_or ws 1 0;
      end = get_or ws 2 0;
      next = get_or ws 3 0;
      child = get_or ws 4 0;
      parent = get_or ws 5 0;
    }

-- Value, first word: "top 2 bits 1 for a number, 2 for a string; low 30 the limb or byte count".
abbrev pub value_head : ℕ → ℕ → ℕ
value_head tag count = pack 30 tag count

abbrev pub value_tag : ℕ → ℕ
value_tag w = high 30 w

abbrev pub value_count : ℕ → ℕ
value_count w = low 30 w

-- Report, first word: "top 6 bits the kind with a 26-bit detail".
abbrev pub report_head : ℕ → ℕ → ℕ
report_head kind detail = pack 26 kind detail

abbrev pub report_kind : ℕ → ℕ
report_kind w = high 26 w

abbrev pub report_detail : ℕ → ℕ
report_detail w = low 26 w

-- "Report, three words: top 6 bits the kind with a 26-bit detail; source start; source end."
abbrev pub report_width : ℕ
report_width = 3

abbrev pub report_words : Report → List ℕ
report_words r = report_head r.kind r.detail ∷ r.start ∷ r.end ∷ []

abbrev pub report_of : List ℕ → Report
report_of ws =
    record {
      kind = report_kind (get_or ws 0 0);
      detail = report_detail (get_or ws 0 0);
      start = get_or ws 1 0;
      end = get_or ws 2 0;
    }
