-- How many bytes the texts of a value have at most: those of its compact text, with 25 of each number.
use Rattle.std.specs.Prelude.{◌≤◌, ℕ, suc, ◌+◌, max, Bool, true, false, List, [], length}
use Rattle.json.specs.Print.{quoted}
use Rattle.json.specs.Json as json
use Rattle.serde_json.specs.Data.{Data}
use Rattle.serde_json.specs.Written.{outline, comma_if}
use Rattle.flow_labels.specs.TwoLists.{Text}
use Rattle.world_save_terms.specs.Compact.{most_number, IsCompact}
use Rattle.world_save_terms.specs.Document.{Parts, text_of, Spells}

abbrev mutual
  pub most_json : json.Json → ℕ
  most_json json.null = 4
  most_json (json.boolean true) = 4
  most_json (json.boolean false) = 5
  most_json (json.number s) = max most_number (length s)
  most_json (json.string s) = length (quoted s)
  most_json (json.array js) = suc (most_items false js)
  most_json (json.object ms) = suc (most_members false ms)

  -- with the closing bracket
  pub most_items : Bool → json.Items → ℕ
  most_items later json.no_items = 1
  most_items later (json.item j js) = length (comma_if later) + (most_json j + most_items true js)

  pub most_members : Bool → json.Members → ℕ
  most_members later json.no_members = 1
  most_members later (json.member k j ms) = length (comma_if later) + (length (quoted k) + suc (most_json j + most_members true ms))

abbrev pub most_bytes : Data → ℕ
most_bytes d = most_json (outline d)

abbrev pub TextsAreBounded : Type 0
TextsAreBounded = (d : Data) (text : List ℕ) → IsCompact d text → length text ≤ most_bytes d

-- how many bytes the texts of a document have at most
abbrev pub longest : Parts → ℕ
longest p = length (text_of p [] []) + (most_bytes p.pipes + most_bytes p.threads)

-- so a document in which this is no more than a document may have is never too long
abbrev pub SpelledTextsAreBounded : Type 0
SpelledTextsAreBounded = (p : Parts) (text : Text) → Spells p text → length text ≤ longest p
