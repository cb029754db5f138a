-- Names, parents and selectors that are built apart.
use Rattle.std.proofs.Common.{◌≡◌, ℕ, Bool, List, Option, Result, IfOk}
use Rattle.scw_classfile.specs.declared.class_file.ClassFile.{ClassFile}
use Rattle.scw_frame.specs.declared.program.Program.{Program}
use Rattle.scw_frame.specs.declared.program.Target.{Target}
use Rattle.scw_text.specs.declared.memory.NoMemory.{NoMemory}
use Rattle.scw_link.specs.Linked.{program_with}
use Rattle.scw_link.specs.Resolve.{target}
use Rattle.scw_link.specs.Selectors.{selectors_from}
use Rattle.scw_link.specs.Site.{Selector, Site}

-- a target by equal names
pub target_named : (s : Site) (b : Bool) (class name descriptor class' name' descriptor' : List ℕ) (r : Result (Option Target) NoMemory)
    → class ≡ class' → name ≡ name' → descriptor ≡ descriptor'
    → IfOk r (λ t. t ≡ target s b (record { class = class; name = name; descriptor = descriptor }))
    → IfOk r (λ t. t ≡ target s b (record { class = class'; name = name'; descriptor = descriptor' }))
target_named s b class name descriptor class' name' descriptor' r e1 e2 e3 h = rw (← e1, ← e2, ← e3) h

-- a program by equal parents and selectors
pub program_same : (files : List ClassFile) (ps ps' : List (Option ℕ)) (ss ss' : List Selector) (main : List ℕ) (r : Result Program NoMemory)
    → ps ≡ ps' → ss ≡ ss' → IfOk r (λ p. p ≡ program_with files ps ss main) → IfOk r (λ p. p ≡ program_with files ps' ss' main)
program_same files ps ps' ss ss' main r e1 e2 h = rw (← e1, ← e2) h

-- selectors after an equal first one
pub selectors_same : (files : List ClassFile) (name descriptor name' descriptor' : List ℕ) (ss : List Selector)
    → name ≡ name' → descriptor ≡ descriptor' → ss ≡ selectors_from (record { name = name; descriptor = descriptor }) files → ss ≡ selectors_from (record { name = name'; descriptor = descriptor' }) files
selectors_same files name descriptor name' descriptor' ss e1 e2 h = rw (← e1, ← e2) h
