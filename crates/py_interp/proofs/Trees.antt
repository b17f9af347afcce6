-- What a tree means, shortened, is what its run is told as.
use Rattle.std.proofs.Common.{◌≡◌, refl, sym, ap, ◌∙◌, ℕ, suc, List, [], ◌∷◌, Bool, true, false, Option, Some, None}
use Rattle.std.specs.Prelude.{codes, if◌then◌else◌}
use Rattle.py_tree.specs.Tree as tree
use Rattle.py_tree.specs.declared.modules.Mode.{Mode}
use Rattle.py_tree.specs.declared.modules.Mode.TheVariants as mode
use Rattle.py_scope.specs.declared.table_type.SymbolTableType.TheVariants as kind
use Rattle.py_bytecode.specs.declared.instruction.Instruction.TheVariants as op
use Rattle.py_bytecode.specs.Objects as const
use Rattle.py_bytecode.specs.Values.{operation, Bare, Value, Operates, World, Fine, then_get, for_none, Breaks, Continues, Returns, Throws, Ended, Normal, Leaves, Halts, then_do}
use Rattle.py_bytecode.specs.Machine.{start}
use Rattle.py_control.specs.Form.{Interp, FixedGlobal, Resolved, VForm, VConst, VKeep, GStore, SForm, SInto, SThen, SReturn, ended_so, returns, run}
use Rattle.py_emission_parts.specs.Context.{Context, inside, outermost}
use Rattle.py_emission_parts.specs.TableParts.{values}
use Rattle.py_emission_parts.specs.Within.{class_path, class_within, function_inside}
use Rattle.py_emission.specs.Futures.{Future, future_of, postpones}
use Rattle.py_emission.specs.Futures as futures
use Rattle.py_emission.specs.Predicates.{any_annotates, none as no_statement}
use Rattle.py_emission.specs.Texts.{after_doc, doc_of}
use Rattle.py_meaning.specs.Interactive.{block_form, interactive_form, last_form, printed_form, print_target, prompt_form, single_form}
use Rattle.py_meaning.specs.Meaning.{body, mod_form}
use Rattle.py_meaning.specs.StmtParts.{after_stmt}
use Rattle.py_meaning.specs.Table.{after, after_all, all_forms, expr_form}
use Rattle.py_meaning.specs.TableImports as form
use Rattle.py_meaning.specs.TableImports.{future_form}
use Rattle.py_meaning.specs.TableParams.{around_own, built_value, def_form, function_number, own_number}
use Rattle.py_meaning.specs.TableScopes.{decorated_form, setup_form}
use Rattle.py_meaning.specs.TableStmts.{doc_form, function_body, program_form, rest_form, stmt_form, stmts_form}
use Rattle.py_answers.specs.Told.{Known, short, short_value}
use Rattle.py_interp.specs.declared.around.Around.{Around}
use Rattle.py_interp.specs.Shortened.{short_ended, short_world}
use Rattle.py_interp.specs.Acting.{Acting, constant, decorate, import_from, into, store}
use Rattle.py_interp.specs.Doing.{Doing, none}
use Rattle.py_interp.specs.Laws.{around_of}
use Rattle.py_interp.specs.Statements as program
use Rattle.py_interp.specs.Statements.{behind_futures, block_walk, define, define_class, doc_walk, interactive_walk, last_walk, mod_walk, print, program_walk, prompt_walk, stored_return, setup_walk, single_walk, stmt_walk, stmts_walk}
use Rattle.py_interp.specs.TreeLaws.{TreesWalk}
use Rattle.py_interp.specs.Walks.{value_walks, walk_expr}
use Rattle.py_interp.proofs.Shorter.{short_for_none}
use Rattle.py_interp.proofs.Steps.{Values}
use Rattle.py_interp.proofs.Exprs.{keep_same, same_expr}
use Rattle.py_interp.proofs.Ended.{EndedEndsAs, do_same, effect_same}
use Rattle.py_interp.proofs.Parts.{Puts, into_same, store_same}
use Rattle.py_interp.proofs.Imports.{from_same}
use Rattle.py_interp.proofs.Stmts.{decorated_same, define_class_same, define_same, gives_back, same_stmt, same_stmts}

-- how a run ends, shortened
ended_short : {K : Type 0} (r : Ended K) → ended_so (short_ended r) ≡ short (ended_so r)
ended_short (Normal w) = refl
ended_short (Leaves Breaks w) = refl
ended_short (Leaves Continues w) = refl
ended_short (Leaves (Returns e) w) = refl
ended_short (Leaves (Throws e) w) = refl
ended_short (Halts es) = refl

-- how the outermost scope of such a file is read
abbrev tree_outer : Context → Context
tree_outer around = record around { class = None; path = []; typ = kind.Module }

-- what stands after a future import
after_outer : (f : Future) (b : Bool) (around : Context) → (if b then record (tree_outer around) { postponed = true } else tree_outer around) ≡ tree_outer (if b then record around { postponed = true } else around)
after_outer f true around = refl
after_outer f false around = refl

after_around : (b : Bool) (around : Context) → (if b then record (around_of around) { postponed = true } else around_of around) ≡ around_of (if b then record around { postponed = true } else around)
after_around true around = refl
after_around false around = refl

module _ {K : Type 0} (i : Interp K) where
  -- what is done with a form in the outermost scope
  abbrev Follows : (Context → tree.Stmts → SForm) → (Around → tree.Stmts → Acting) → Type 0
  Follows form follow = (around : Context) (ss : tree.Stmts) → EndedEndsAs (run i (form (tree_outer around) ss) None) (follow (around_of around) ss)

  future_same : (around : Context) (f : Future) → EndedEndsAs (run i (future_form (tree_outer around) f) None) (import_from f.path f.names f.level)
  future_same around f w = from_same i (tree_outer around) f.path f.names f.level None w

  -- one that follows a future import
  tree_moved : (form : Context → tree.Stmts → SForm) (follow : Around → tree.Stmts → Acting) (f : Future) (around : Context) (ss : tree.Stmts)
      → EndedEndsAs (run i (form (tree_outer (futures.after_future f around)) ss) None) (follow (around_of (futures.after_future f around)) ss)
      → EndedEndsAs (run i (form (futures.after_future f (tree_outer around)) ss) None) (follow (program.after_future f (around_of around)) ss)
  tree_moved form follow f around ss h w =
      ap (λ b. follow b ss (short_world w)) (after_around (postpones f) around)
      ∙ h w
      ∙ ap (λ d. short_ended (run i (form d ss) None w)) (sym (after_outer f (postpones f) around))

  behind_same : (form1 : Context → tree.Stmts → SForm) (follow : Around → tree.Stmts → Acting) → Follows form1 follow → Follows (form.behind_futures form1) (behind_futures follow)
  behind_same form1 follow h around tree.no_stmts w = h around tree.no_stmts w
  behind_same form1 follow h around (tree.more_stmts s ss) w = go (future_of s) (λ f. behind_same form1 follow h (futures.after_future f around) ss)
    where
      go : (o : Option Future)
          → ((f : Future) → EndedEndsAs (run i (form.behind_futures form1 (tree_outer (futures.after_future f around)) ss) None) (behind_futures follow (around_of (futures.after_future f around)) ss))
          → (elim o [ None ↦ follow (around_of around) (tree.more_stmts s ss) (short_world w) | Some f ↦ then_do (import_from f.path f.names f.level (short_world w)) (behind_futures follow (program.after_future f (around_of around)) ss) ]) ≡ short_ended (run i (elim o [ None ↦ form1 (tree_outer around) (tree.more_stmts s ss) | Some f ↦ SThen (future_form (tree_outer around) f) (form.behind_futures form1 (futures.after_future f (tree_outer around)) ss) ]) None w)
      go None ih = h around (tree.more_stmts s ss) w
      go (Some f) ih =
          do_same (run i (future_form (tree_outer around) f) None w) (import_from f.path f.names f.level (short_world w)) (run i (form.behind_futures form1 (futures.after_future f (tree_outer around)) ss) None) (behind_futures follow (program.after_future f (around_of around)) ss) (future_same around f w) (tree_moved (form.behind_futures form1) (behind_futures follow) f around ss (ih f))

  none_back : EndedEndsAs (run i (SReturn (VConst const.none)) None) (λ w. returns none w)
  none_back w = refl

  doc_same : (text : Option (List ℕ)) → EndedEndsAs (run i (doc_form text) None) (doc_walk text)
  doc_same None w = refl
  doc_same (Some text) w = into_same i (VConst (const.str text)) (GStore FixedGlobal (codes "__doc__")) (constant (const.str text)) (store (codes "__doc__")) (λ w1. refl) (store_same i FixedGlobal (codes "__doc__")) None w

  setup_same : (b : Bool) → EndedEndsAs (run i (setup_form b) None) (setup_walk b)
  setup_same false w = refl
  setup_same true w = effect_same (for_none (Operates (operation op.SetupAnnotation Bare) []) false w) (for_none (Operates (operation op.SetupAnnotation Bare) []) false (short_world w)) (short_for_none (Operates (operation op.SetupAnnotation Bare) []) (Operates (operation op.SetupAnnotation Bare) []) false refl w)

  stmts_follow : Follows (λ d. stmts_form d 1) (λ b ss. stmts_walk b ss None)
  stmts_follow around ss w = same_stmts i around 1 ss None w

  program_same : Follows program_form program_walk
  program_same around body w =
      do_same (run i (doc_form (doc_of around.level body)) None w) (doc_walk (doc_of around.level body) (short_world w)) _ _ (doc_same (doc_of around.level body) w) (λ w1. do_same (run i (setup_form (any_annotates (after_doc body))) None w1) (setup_walk (any_annotates (after_doc body)) (short_world w1)) _ _ (setup_same (any_annotates (after_doc body)) w1) (λ w2. do_same (run i (form.behind_futures (λ d. stmts_form d 1) (tree_outer around) (after_doc body)) None w2) (behind_futures (λ b ss. stmts_walk b ss None) (around_of around) (after_doc body) (short_world w2)) (run i (SReturn (VConst const.none)) None) (λ w3. returns none w3) (behind_same (λ d. stmts_form d 1) (λ b ss. stmts_walk b ss None) stmts_follow around (after_doc body) w2) none_back))

  -- ---- at a prompt

  print_put : Puts i print_target print
  print_put v w = short_for_none (Operates (operation op.PrintExpr Bare) (v ∷ [])) (Operates (operation op.PrintExpr Bare) (short_value v ∷ [])) false refl w

  printed_same : (last : Bool) (f : VForm) (m : Doing (Value Known)) (rest : SForm) (follow : Acting) → Values i f m → EndedEndsAs (run i rest None) follow
      → EndedEndsAs (run i (printed_form last f rest) None) (program.printed_then last m follow)
  printed_same true f m rest follow hf hr w = gives_back i (VKeep f None print_target) (λ w1. then_get (m w1) (λ v w2. then_get (print v w2) (λ d w3. Fine v w3))) (keep_same i f print_target m print hf print_put) None w
  printed_same false f m rest follow hf hr w = do_same (run i (SInto f print_target) None w) (into m print (short_world w)) (run i rest None) follow (into_same i f print_target m print hf print_put None w) hr

  module _ (around : Context) where
    value_same : (n : ℕ) (e : tree.Expr) → Values i (expr_form (tree_outer around) n e) (walk_expr (around_of around) e)
    value_same n e = (same_expr i (tree_outer around) n e).value

    single_same : (n : ℕ) (ss : tree.Stmts) → EndedEndsAs (run i (single_form (tree_outer around) n ss) None) (single_walk (around_of around) ss)
    single_same n tree.no_stmts w = refl
    single_same n (tree.more_stmts (tree.StmtExpr at value) ss) w = printed_same (no_statement ss) (expr_form (tree_outer around) n value) (walk_expr (around_of around) value) (single_form (tree_outer around) (after (tree_outer around) n value) ss) (single_walk (around_of around) ss) (value_same n value) (single_same (after (tree_outer around) n value) ss) w
    single_same n (tree.more_stmts s ss) w = do_same (run i (stmt_form (tree_outer around) n s) None w) (stmt_walk (around_of around) s None (short_world w)) (run i (single_form (tree_outer around) (after_stmt (tree_outer around) n s) ss) None) (single_walk (around_of around) ss) (same_stmt i around n s None w) (single_same (after_stmt (tree_outer around) n s) ss)

    -- what is stored is returned too
    returned_same : (f : VForm) (name : List ℕ) (m : Doing (Value Known)) → Values i f m → EndedEndsAs (run i (SReturn (VKeep f None (GStore Resolved name))) None) (stored_return m name)
    returned_same f name m h w = gives_back i (VKeep f None (GStore Resolved name)) (λ w1. then_get (m w1) (λ v w2. then_get (store name v w2) (λ d w3. Fine v w3))) (keep_same i f (GStore Resolved name) m (store name) h (store_same i Resolved name)) None w

    last_same : (n : ℕ) (s : tree.Stmt) → EndedEndsAs (run i (last_form (tree_outer around) n s) None) (last_walk (around_of around) s)
    last_same n (tree.StmtExpr at e) w = gives_back i (expr_form (tree_outer around) n e) (walk_expr (around_of around) e) (value_same n e) None w
    last_same n (tree.FunctionDef at name params body decorators returns generic) w =
        let c = tree_outer around in let m = after_all c n decorators in let k = function_number c m params generic in let f = function_body (function_inside name (around_own c m generic) k) (suc k) body in
        returned_same (decorated_form (values (all_forms c n decorators)) (def_form c m name params body returns generic f)) name (decorate (value_walks (around_of around) decorators) (define (around_of around) name params body returns generic)) (decorated_same i around n decorators (def_form c m name params body returns generic f) (define (around_of around) name params body returns generic) (define_same i around m name params body returns generic f)) w
    last_same n (tree.ClassDef at name bases ks body decorators generic) w =
        let c = tree_outer around in let m = after_all c n decorators in let k = own_number c m generic in let f = rest_form (class_within (class_path c name) name (around_own c m generic) k) (suc k) body in
        returned_same (decorated_form (values (all_forms c n decorators)) (built_value c m name bases ks body generic f)) name (decorate (value_walks (around_of around) decorators) (define_class (around_of around) name bases ks generic)) (decorated_same i around n decorators (built_value c m name bases ks body generic f) (define_class (around_of around) name bases ks generic) (define_class_same i around m name bases ks body generic f)) w
    last_same n s w = do_same (run i (stmt_form (tree_outer around) n s) None w) (stmt_walk (around_of around) s None (short_world w)) (run i (SReturn (VConst const.none)) None) (λ w1. returns none w1) (same_stmt i around n s None w) none_back

    block_same : (n : ℕ) (ss : tree.Stmts) → EndedEndsAs (run i (block_form (tree_outer around) n ss) None) (block_walk (around_of around) ss)
    block_same n tree.no_stmts w = refl
    block_same n (tree.more_stmts s tree.no_stmts) w = last_same n s w
    block_same n (tree.more_stmts s (tree.more_stmts t ts)) w =
        do_same (run i (stmt_form (tree_outer around) n s) None w) (stmt_walk (around_of around) s None (short_world w)) (run i (block_form (tree_outer around) (after_stmt (tree_outer around) n s) (tree.more_stmts t ts)) None) (block_walk (around_of around) (tree.more_stmts t ts)) (same_stmt i around n s None w) (block_same (after_stmt (tree_outer around) n s) (tree.more_stmts t ts))

  prompt_turn : (n : ℕ) (around : Context) (s : tree.Stmt) (ss : tree.Stmts) (o : Option Future)
      → ((f : Future) → EndedEndsAs (run i (prompt_form (tree_outer (futures.after_future f around)) n ss) None) (prompt_walk (around_of (futures.after_future f around)) ss))
      → (w : World K)
      → (elim o [ None ↦ single_walk (around_of around) (tree.more_stmts s ss) (short_world w) | Some f ↦ then_do (import_from f.path f.names f.level (short_world w)) (prompt_walk (program.after_future f (around_of around)) ss) ]) ≡ short_ended (run i (elim o [ None ↦ single_form (tree_outer around) n (tree.more_stmts s ss) | Some f ↦ SThen (future_form (tree_outer around) f) (prompt_form (futures.after_future f (tree_outer around)) n ss) ]) None w)
  prompt_turn n around s ss None ih w = single_same around n (tree.more_stmts s ss) w
  prompt_turn n around s ss (Some f) ih w =
      do_same (run i (future_form (tree_outer around) f) None w) (import_from f.path f.names f.level (short_world w)) (run i (prompt_form (futures.after_future f (tree_outer around)) n ss) None) (prompt_walk (program.after_future f (around_of around)) ss) (future_same around f w) (tree_moved (λ d es. prompt_form d n es) prompt_walk f around ss (ih f))

  prompt_same : (n : ℕ) (around : Context) (ss : tree.Stmts) → EndedEndsAs (run i (prompt_form (tree_outer around) n ss) None) (prompt_walk (around_of around) ss)
  prompt_same n around tree.no_stmts w = refl
  prompt_same n around (tree.more_stmts (tree.StmtExpr at value) ss) w =
      printed_same (no_statement ss) (expr_form (tree_outer around) n value) (walk_expr (around_of around) value) (prompt_form (tree_outer around) (after (tree_outer around) n value) ss) (prompt_walk (around_of around) ss) (value_same around n value) (prompt_same (after (tree_outer around) n value) around ss) w
  prompt_same n around (tree.more_stmts s ss) w = prompt_turn n around s ss (future_of s) (λ f. prompt_same n (futures.after_future f around) ss) w

  interactive_same : (m : Mode) (around : Context) (ss : tree.Stmts) → EndedEndsAs (run i (interactive_form m (tree_outer around) ss) None) (interactive_walk m (around_of around) ss)
  interactive_same mode.Single around ss w = prompt_same 1 around ss w
  interactive_same other around ss w = behind_same (λ d. block_form d 1) block_walk (λ d es. block_same d 1 es) around ss w

  -- ---- whole trees

  mod_same : (around : Context) (t : tree.Mod) (m : Mode) → EndedEndsAs (run i (mod_form (tree_outer around) t m) None) (mod_walk m (around_of around) t)
  mod_same around (tree.Module stmts) m w = program_same around stmts w
  mod_same around (tree.Interactive stmts) m w = interactive_same m around stmts w
  mod_same around (tree.Expression value) m w = gives_back i (expr_form (tree_outer around) 1 value) (walk_expr (around_of around) value) (value_same around 1 value) None w
  mod_same around other m w = refl

pub trees_walk : TreesWalk
unfolding inside
trees_walk view scopes t m level answers =
    let i = view (body scopes t m level) in
    ap ended_so (mod_same i (outermost level [] scopes) t m (start answers)) ∙ ended_short (run i (mod_form (outermost level [] scopes) t m) None (start answers))
