mod AskedLemmas
mod Ended
mod RunWordLemmas
mod Utf8Lemmas
mod Written
