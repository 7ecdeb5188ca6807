use Rattle.world_doc_stores.proofs.ListLemmas.{word_is_text}
use Rattle.world_doc_stores.proofs.tags.word_at.Goals as goal

pub unreachable-requires : goal.unreachable-requires
unreachable-requires c = c.in-Err.ensures.cases.0 (word_is_text c.unwrap_or-rest.result.now c.word_len.result c.word_len.ensures.value)
