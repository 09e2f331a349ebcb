-- Facts side by side as the record that a contract of several clauses asks, each fact under its clause's name.

pub bytes_place : {A B : Type 0} → A × B → record { bytes : A; place : B }
bytes_place p = record { bytes = p.0; place = p.1 }

pub answer_memory : {A B : Type 0} → A × B → record { answer : A; memory : B }
answer_memory p = record { answer = p.0; memory = p.1 }

pub value_out : {A B : Type 0} → A × B → record { value : A; out_after : B }
value_out p = record { value = p.0; out_after = p.1 }

pub value_rx : {A B : Type 0} → A × B → record { value : A; rx_after : B }
value_rx p = record { value = p.0; rx_after = p.1 }

pub value_tx : {A B : Type 0} → A × B → record { value : A; tx_after : B }
value_tx p = record { value = p.0; tx_after = p.1 }

pub value_rx_out : {A B C : Type 0} → A × (B × C) → record { value : A; rx_after : B; out_after : C }
value_rx_out p = record { value = p.0; rx_after = p.1.0; out_after = p.1.1 }

pub value_tx_out : {A B C : Type 0} → A × (B × C) → record { value : A; tx_after : B; out_after : C }
value_tx_out p = record { value = p.0; tx_after = p.1.0; out_after = p.1.1 }

pub value_rx_tx_out : {A B C D : Type 0} → A × (B × (C × D)) → record { value : A; rx_after : B; tx_after : C; out_after : D }
value_rx_tx_out p = record { value = p.0; rx_after = p.1.0; tx_after = p.1.1.0; out_after = p.1.1.1 }
