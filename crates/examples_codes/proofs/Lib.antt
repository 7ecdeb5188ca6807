mod FirstThread
mod PrivateTurns
