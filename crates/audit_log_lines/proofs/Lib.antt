mod ViewLemmas
mod AuditLemmas
