mod FormLemmas
mod Forms
mod Throughout
