use Rattle.std.proofs.Common.{string_bytes, codes}
use Rattle.lam_make.specs.Made.{listed, tag_word, nth_thread}
use Rattle.lam_make.proofs.MadeLemmas.{five_parts}
use Rattle.lam_make.proofs.document.push_world.Goals as goal

pub returns : goal.returns
returns c = five_parts (string_bytes c.args.text.now) (string_bytes c.push_str.new.self) (string_bytes c.push_tags.new.text) (string_bytes c.push_str-2.new.self) (string_bytes c.push_threads.new.text) (string_bytes c.push_str-3.new.self) (codes "{\"version\":1,\"tags\":[") (listed tag_word c.args.threads) (codes "],\"tree\":[],\"pipes\":[],\"threads\":[") (listed (nth_thread c.args.seed) c.args.threads) (codes "]}") c.in_ok-push_str.ensures.bytes c.in_ok-push_tags.ensures c.in_ok-push_str-2.ensures.bytes c.in_ok-push_threads.ensures c.in_ok-push_str-3.ensures.bytes
